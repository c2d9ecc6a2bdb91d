-- The search begins at the actor's last scope, which the new one then is.
use Rattle.run_picture.specs.{AreOwns, IsLastOf, length}
use Rattle.run_picture.proofs.Lemmas.{arith, opening_within, subst, sym}
use Rattle.run_picture.proofs.Searched.{opened_then, searched_first}
use Rattle.run_picture.proofs.arounds.next_own.Goals as goal

pub innermost_before-requires-clause-owns : goal.innermost_before-requires-clause-owns
innermost_before-requires-clause-owns g c =
    let h = g.R.Readings.history c.args.readings.now in
    subst (AreOwns c.args.owns.now h) (opened_then h c.args.scope (length c.args.owns.now) c.in-Some.opening (sym c.in-Some.ensures) c.requires.numbered) c.requires.owns

pub innermost_before-requires-clause-within : goal.innermost_before-requires-clause-within
innermost_before-requires-clause-within g c = omega (arith, opening_within (g.R.Readings.history c.args.readings.now) c.args.scope c.in-Some.opening (sym c.in-Some.ensures))

pub innermost_before-requires-clause-searched : goal.innermost_before-requires-clause-searched
innermost_before-requires-clause-searched g c =
    let h = g.R.Readings.history c.args.readings.now in
    let last = c.requires.last.each c.in-Some.opening.actor in
    searched_first h c.args.scope (length c.args.owns.now) c.in-Some.opening c.last_scope-from.result (sym c.in-Some.ensures) c.requires.numbered (subst (IsLastOf h (length c.args.owns.now) c.in-Some.opening.actor) (sym c.last_scope-from.ensures) last)
