-- The scope's place among those since the base.
use Rattle.run_picture.specs.{◌-◌, ◌≡◌, None, before, get_or, own_around}
use Rattle.run_picture.proofs.Lemmas.{◌∙◌, ap, arith, index_of}
use Rattle.run_picture.proofs.arounds.outwards.Goals as goal

pub overflow_sub-result : goal.overflow_sub-result
overflow_sub-result g c =
    let it = index_of (before (g.R.Readings.history c.args.readings.now) c.args.place) c.args.scope c.requires.opened in
    omega (arith, it.1, it.2)

pub overflow_sub-result-2 : goal.overflow_sub-result-2
overflow_sub-result-2 g c =
    let it = index_of (before (g.R.Readings.history c.args.readings.now) c.args.place) c.args.scope c.requires.opened in
    omega (arith, it.1, it.2)

pub bounds-owns-scope : goal.bounds-owns-scope
bounds-owns-scope g c =
    let it = index_of (before (g.R.Readings.history c.args.readings.now) c.args.place) c.args.scope c.requires.opened in
    omega (arith, it.1, it.2, c.requires.owns.long)

pub returns : goal.returns
returns g c =
    let it = index_of (before (g.R.Readings.history c.args.readings.now) c.args.place) c.args.scope c.requires.opened in
    let at : c.args.scope - c.retired_scopes.result - 1 ≡ it.0 = omega (arith, it.2, c.retired_scopes.ensures) in
    ap (λ i. get_or c.args.owns.now i None) at ∙ c.requires.owns.each it.0 it.1 ∙ ap (own_around (g.R.Readings.history c.args.readings.now)) it.2
