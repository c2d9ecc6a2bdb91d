use Rattle.std.proofs.Common.{◌<◌, ◌==◌, arith, subst, sym}
use Rattle.realm_core.proofs.Words.{IsPermutation-trans, both_ways, eq-eqb, eqb-true}
use Rattle.realm_core.proofs.{Gathering.IsGathering, Gathering.all_found, Gathering.gathering_begins, Gathering.gathering_goes_on, Gathering.missing_one, Gathering.one_left, Settling.left, Settling.left_falls}
use Rattle.realm_core.proofs.tickets.are_tickets_of.Goals as goal

pub loop-next-init : goal.loop-next-init
loop-next-init c = gathering_begins c.args.realm.now.history c.args.scope c.args.tickets.now.items c.requires.opened c.requires.unclosed

pub returns-in_default-place_all-clause-same : goal.returns-in_default-place_all-clause-same
returns-in_default-place_all-clause-same c = IsPermutation-trans _ _ _ c.loop-next.invariant.same c.place_all.ensures.same

pub returns-in_default-place_all-clause-no : goal.returns-in_default-place_all-clause-no
returns-in_default-place_all-clause-no c so =
    let h = c.args.realm.now.history in
    missing_one h c.args.scope c.in-Some.here c.loop-next.placed c.args.tickets.now.items c.loop-next.tickets.items c.place_all.new.tickets.items
    (subst (IsGathering h c.args.scope c.args.tickets.now.items c.loop-next.tickets.items c.loop-next.placed) c.in-Some.is c.loop-next.invariant) c.place_all.ensures.same c.in_default-place_all.ensures.placed

pub loop-next-smaller : goal.loop-next-smaller
loop-next-smaller c =
    let h = c.args.realm.now.history in
    subst (λ o. left h c.inner-next.result < left h o) (sym c.in-Some.is) (left_falls h c.in-Some.here c.inner-next.result c.inner-next.ensures)

pub loop-next-preserved : goal.loop-next-preserved
loop-next-preserved c =
    let h = c.args.realm.now.history in
    gathering_goes_on h c.args.scope c.in-Some.here c.loop-next.placed c.in-Some-place_all.more c.args.tickets.now.items c.loop-next.tickets.items c.place_all.new.tickets.items c.inner-next.result
    (subst (IsGathering h c.args.scope c.args.tickets.now.items c.loop-next.tickets.items c.loop-next.placed) c.in-Some.is c.loop-next.invariant) c.place_all.ensures.same c.in-Some-place_all.ensures.placed c.inner-next.ensures

pub returns-clause-yes : goal.returns-clause-yes
returns-clause-yes c full =
    let h = c.args.realm.now.history in
    all_found h c.args.scope c.loop-next.placed c.args.tickets.now.items c.loop-next.tickets.items
    (subst (IsGathering h c.args.scope c.args.tickets.now.items c.loop-next.tickets.items c.loop-next.placed) c.in_default.is c.loop-next.invariant)
    (let same = eqb-true c.loop-next.placed c.len.result full in omega (arith, same, c.len.ensures, c.loop-next.tickets.ok.0))

pub returns-clause-no : goal.returns-clause-no
returns-clause-no c other =
    let h = c.args.realm.now.history in
    one_left h c.args.scope c.loop-next.placed c.args.tickets.now.items c.loop-next.tickets.items
    (subst (IsGathering h c.args.scope c.args.tickets.now.items c.loop-next.tickets.items c.loop-next.placed) c.in_default.is c.loop-next.invariant)
    (λ full. both_ways (c.loop-next.placed == c.len.result) other (eq-eqb c.loop-next.placed c.len.result (omega (arith, full, c.len.ensures, c.loop-next.tickets.ok.0))))
