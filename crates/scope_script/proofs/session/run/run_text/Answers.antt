use Rattle.scope_script.specs.{session_of}
use Rattle.scope_script.proofs.Lemmas.{◌∙◌}
use Rattle.scope_script.proofs.Progress.{nothing_yet, text_ends, text_stops, text_stops_ending}
use Rattle.scope_script.proofs.session.run.run_text.Goals as goal

pub returns-in_default-clause-fault : goal.returns-in_default-clause-fault
returns-in_default-clause-fault g c = nothing_yet _ _

pub returns-in-Err-clause-fault : goal.returns-in-Err-clause-fault
returns-in-Err-clause-fault g c =
    text_stops _ c.args.mode c.args.limits _ c.args.script.now c.new-begun.ensures _ c.in-Err.ensures.err

pub returns-in-Ok-finish-clause-ok : goal.returns-in-Ok-finish-clause-ok
returns-in-Ok-finish-clause-ok g c =
    text_ends _ c.args.mode c.args.limits _ c.args.script.now c.new-begun.ensures _ _ (session_of c.step.new.script) _ _
    c.in-Ok-step.ensures.ok c.in-Ok-step.ensures.script c.in-Ok-finish.ensures.ok
    (c.into_ran.ensures.book ∙ c.finish.ensures.realm) (c.into_ran.ensures.tally ∙ c.finish.ensures.tally)

pub returns-in-Err-finish-clause-fault : goal.returns-in-Err-finish-clause-fault
returns-in-Err-finish-clause-fault g c =
    text_stops_ending _ c.args.mode c.args.limits _ c.args.script.now c.new-begun.ensures _ _ (session_of c.step.new.script)
    c.in-Ok-step.ensures.ok c.in-Ok-step.ensures.script c.in-Err-finish.ensures.err
