use Rattle.scope_model.specs.{move_of, option_or}
use Rattle.scope_model.proofs.Words.{◌∙◌, ap, last_of_more}
use Rattle.scope_model.proofs.scan.view.HistoryView.last_move.Goals as goal

pub loop-place-preserved : goal.loop-place-preserved
loop-place-preserved c = c.or-last.ensures ∙ (ap (λ o. option_or o c.loop-place.last) c.move_of.ensures ∙ last_of_more (move_of c.args.scope) _ _ _ _ c.event.ensures c.loop-place.invariant)
