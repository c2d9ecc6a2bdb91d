-- The parts decide what the join answered.
use Rattle.scope_index.proofs.Words.{◌∙◌, ap, option_map, sym}
use Rattle.scope_index.proofs.OutcomesTold.{outcome_told}
use Rattle.scope_index.proofs.joined.parts_of.Goals as goal

pub returns : goal.returns
returns c = λ L h legal rows cancels forks.
    let row = sym c.scope.ensures.row ∙ ap (option_map (λ r. r.now)) c.unwrap-row.ensures in
    outcome_told L h c.args.rows.now c.args.cancels.now c.args.scope c.unwrap-place.result c.unwrap-row.result.now c.account.result.now c.first_cancel.result c.cause_before-cause.result c.of.result.now
    legal rows cancels row c.unwrap-place.ensures c.requires.row c.account.ensures (c.first_cancel.ensures L h legal cancels) c.cause_before-cause.ensures (c.of.ensures.agrees h forks)
