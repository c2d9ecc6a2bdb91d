-- What was closed is whole.
use Rattle.scope_model.specs.{Realm}
use Rattle.scope_model.proofs.Words.{ap, end_closes_whole}
use Rattle.scope_model.proofs.plain.evaluator.Plain.end_close.Goals as goal

pub returns-clause-whole : goal.returns-clause-whole
returns-clause-whole c =
    end_closes_whole _ _ _ c.args.actor c.args.scope c.record.ensures.legal (ap (λ (r : Realm). r.history) c.record.ensures.added)
