-- The scope's place among those since the base.
use Rattle.std.specs.Prelude.{◌-◌, ◌<◌, ◌≡◌}
use Rattle.run_picture.specs.{None, get_or, length, own_around}
use Rattle.run_picture.proofs.Lemmas.{◌∙◌, ap, arith, get_or_default, index_of}
use Rattle.run_picture.proofs.arounds.own_of.Goals as goal

pub overflow_sub-scope : goal.overflow_sub-scope
overflow_sub-scope g c =
    let it = index_of (g.R.Readings.history c.args.readings.now) c.args.scope c.requires.opened in
    omega (arith, it.1, it.2)

pub overflow_sub-scope-2 : goal.overflow_sub-scope-2
overflow_sub-scope-2 g c =
    let it = index_of (g.R.Readings.history c.args.readings.now) c.args.scope c.requires.opened in
    omega (arith, it.1, it.2)

pub index-requires : goal.index-requires
index-requires g c =
    let it = index_of (g.R.Readings.history c.args.readings.now) c.args.scope c.requires.opened in
    let at : c.args.scope - c.retired_scopes.result - 1 ≡ it.0 = omega (arith, it.2, c.retired_scopes.ensures) in
    omega (arith, at, it.1, c.requires.nest.owns.all.long, c.args.nest.now.owns.scopes.ok)

pub returns : goal.returns
returns g c =
    let it = index_of (g.R.Readings.history c.args.readings.now) c.args.scope c.requires.opened in
    let at : c.args.scope - c.retired_scopes.result - 1 ≡ it.0 = omega (arith, it.2, c.retired_scopes.ensures) in
    let small : c.args.scope - c.retired_scopes.result - 1 < length c.args.nest.now.owns.scopes.items = omega (arith, at, it.1, c.requires.nest.owns.all.long) in
    c.index.ensures
    ∙ get_or_default c.args.nest.now.owns.scopes.items (c.args.scope - c.retired_scopes.result - 1) c.index.result.now None small
    ∙ ap (λ i. get_or c.args.nest.now.owns.scopes.items i None) at
    ∙ c.requires.nest.owns.all.each it.0 it.1
    ∙ ap (own_around (g.R.Readings.history c.args.readings.now)) it.2
