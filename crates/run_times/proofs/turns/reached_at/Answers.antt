-- The place that is kept is the first one.
use Rattle.run_times.specs.{forked_count}
use Rattle.run_times.proofs.Placed.{kept_place, task_index}
use Rattle.run_times.proofs.turns.reached_at.Goals as goal

pub returns : goal.returns
returns g c =
    let h = g.R.Readings.history c.args.readings.now in
    let it = task_index h c.args.task c.requires.forked in
    kept_place c.args.firsts.now c.args.landmark h.events h.base.tasks (forked_count h) it.0 c.args.task c.place.result c.requires.firsts it.2 it.1 c.place.ensures
