use Rattle.script_jobs.specs.{after_bytes, the_beginning}
use Rattle.script_jobs.proofs.Words.{◌∙◌, after_none, ap, sym}
use Rattle.script_jobs.proofs.prompting.prompted.Goals as goal

pub listen-requires-clause-stands : goal.listen-requires-clause-stands
listen-requires-clause-stands g c = λ fresh.
    c.new.ensures.plain ∙ (after_none (the_beginning c.args.limits) ∙ ap (after_bytes (the_beginning c.args.limits)) (sym c.new-2.ensures.items))
