use Rattle.scope_model.specs.{total_of}
use Rattle.scope_model.proofs.Words.{arith, ints, refl, to_z-of_z, total_at}
use Rattle.scope_model.proofs.scan.view.HistoryView.total.Goals as goal

pub loop-place-init : goal.loop-place-init
unfolding total_of
loop-place-init c = record { sum = refl; low = omega (arith, ints); high = omega (arith, ints) }

pub loop-place-preserved : goal.loop-place-preserved
loop-place-preserved c =
    let step = total_at c.args.self.now c.args.scope c.loop-place.place c.event.result.now c.event.ensures in
    record {
      sum = grind (arith, ints, to_z-of_z, step);
      low = omega (arith, ints);
      high = omega (arith, ints);
    }
