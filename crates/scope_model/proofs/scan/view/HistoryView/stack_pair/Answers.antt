use Rattle.scope_model.proofs.Words.{◌∙◌, arith, height_bound, height_more, pair_more}
use Rattle.scope_model.proofs.scan.view.HistoryView.stack_pair.Goals as goal

pub loop-place-preserved : goal.loop-place-preserved
loop-place-preserved c =
    let so = c.loop-place.invariant in
    let step = height_bound c.args.actor c.loop-place.height c.event-event.result.now in
    record {
      pair = c.pair_after-pair.ensures ∙ pair_more c.args.self.now c.args.actor c.args.index c.loop-place.place c.loop-place.height c.loop-place.pair c.event-event.result.now c.event-event.ensures so.height so.pair;
      height = c.height_after-height.ensures ∙ height_more c.args.self.now c.args.actor c.loop-place.place c.loop-place.height c.event-event.result.now c.event-event.ensures so.height;
      bound = rw c.height_after-height.ensures (omega (arith, so.bound, step));
    }
