-- The place that is kept is the first one.
use Rattle.run_picture.specs.{Landmark, opened_count}
use Rattle.run_picture.proofs.Lemmas.{index_of, kept_place, sym}
use Rattle.run_picture.proofs.columns.joined_at.Goals as goal

pub returns : goal.returns
returns g c =
    let h = g.R.Readings.history c.args.readings.now in
    let it = index_of h c.args.scope c.requires.opened in
    kept_place c.args.places.now.joins Landmark.Joined h.events h.base.scopes (opened_count h) it.0 c.args.scope c.place.result c.requires.places.joins (sym it.2) it.1 c.place.ensures
