-- The place that is kept is the first one.
use Rattle.run_times.specs.{opened_count}
use Rattle.run_times.proofs.Words.{sym}
use Rattle.run_times.proofs.Placed.{index_of, kept_place}
use Rattle.run_times.specs.declared.landmarks.Landmark.TheVariants as landmark
use Rattle.run_times.proofs.turns.closed_at.Goals as goal

pub returns : goal.returns
returns g c =
    let h = g.R.Readings.history c.args.readings.now in
    let it = index_of h c.args.scope c.requires.opened in
    kept_place c.args.closes.now landmark.Closed h.events h.base.scopes (opened_count h) it.0 c.args.scope c.place.result c.requires.closes (sym it.2) it.1 c.place.ensures
