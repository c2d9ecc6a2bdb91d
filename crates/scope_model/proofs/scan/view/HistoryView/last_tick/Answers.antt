use Rattle.scope_model.specs.{option_or, tick_of}
use Rattle.scope_model.proofs.Words.{◌∙◌, ap, last_of_more}
use Rattle.scope_model.proofs.scan.view.HistoryView.last_tick.Goals as goal

pub loop-place-preserved : goal.loop-place-preserved
loop-place-preserved c = c.or-last.ensures ∙ (ap (λ o. option_or o c.loop-place.last) c.tick_of.ensures ∙ last_of_more tick_of _ _ _ _ c.event.ensures c.loop-place.invariant)
