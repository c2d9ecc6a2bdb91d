use Rattle.std.proofs.Common.{◌∙◌, ◌∷◌, ◌≡◌, refl, subst, sym}
use Rattle.scope_index.specs.{AreCancelsOf, CancelTable}
use Rattle.scope_index.proofs.{Coming.IsAhead, Coming.ahead_first, Coming.ahead_next, Coming.next_found, Coming.none_comes, Passing.row_there}
use Rattle.scope_index.proofs.cancels.CancelIndex.next_deadline.Goals as goal

pub loop-deadline-init : goal.loop-deadline-init
loop-deadline-init c =
    let inside = c.self.inside in
    (tt, (tt, subst (IsAhead inside.tree inside.deadlines) (sym c.into_iter-deadline-iterator.ensures.into_iter_gives) (ahead_first inside.tree inside.deadlines c.in_order-deadline-items.result c.in_order-deadline-items.ensures)))

pub is_cancelled-requires : goal.is_cancelled-requires
is_cancelled-requires c =
    let inside = c.self.inside in
    let pair = c.in-Some.field-0.now in
    let ahead : IsAhead inside.tree inside.deadlines (pair ∷ c.next.new.self) = subst (IsAhead inside.tree inside.deadlines) c.in-Some.ensures.steps c.loop-deadline.invariant.1.1 in
    row_there inside.moment inside.tree pair.1 pair.0 (sym (c.self.invariant.indexed pair.1) ∙ ahead.each 0 pair refl)

pub loop-deadline-preserved : goal.loop-deadline-preserved
loop-deadline-preserved c =
    let inside = c.self.inside in
    let pair = c.in-Some.field-0.now in
    let ahead = subst (IsAhead inside.tree inside.deadlines) c.in-Some.ensures.steps c.loop-deadline.invariant.1.1 in
    (tt, (tt, ahead_next inside.tree inside.deadlines pair c.next.new.self ahead (sym c.is_cancelled.ensures ∙ c.if-not-is_cancelled.false)))

pub returns-then-not-is_cancelled : goal.returns-then-not-is_cancelled
returns-then-not-is_cancelled c = λ L h legal was.
    let inside = c.self.inside in
    let table : CancelTable = record { before = inside.before; moment = inside.moment; nodes = inside.tree; accounts = inside.accounts.items } in
    let pair = c.in-Some.field-0.now in
    let ahead = subst (IsAhead inside.tree inside.deadlines) c.in-Some.ensures.steps c.loop-deadline.invariant.1.1 in
    next_found L h table inside.deadlines pair c.next.new.self c.self.invariant ahead (sym c.is_cancelled.ensures ∙ c.if-not-is_cancelled.true) legal (subst (AreCancelsOf h) (sym c.self.view_is) was)

pub returns : goal.returns
returns c = λ L h legal was.
    let inside = c.self.inside in
    let table : CancelTable = record { before = inside.before; moment = inside.moment; nodes = inside.tree; accounts = inside.accounts.items } in
    none_comes L h table inside.deadlines c.self.invariant (subst (IsAhead inside.tree inside.deadlines) c.in-None.ensures.steps.0 c.loop-deadline.invariant.1.1) legal (subst (AreCancelsOf h) (sym c.self.view_is) was)
