use Rattle.std.proofs.Common.{◌<◌, ◌≤◌, refl, subst, sym}
use Rattle.scope_index.specs.{AreCancelsOf, AreKept, CancelTable, IsLatest}
use Rattle.scope_index.proofs.{CancelSteps.ticked, CancelSteps.ticked_next, Passing.IsPassing, Passing.next_added, Passing.passing_kept, Passing.passing_start, Passing.passing_step, Passing.passing_ticked, Passing.shorter}
use Rattle.scope_index.proofs.{TableSteps.HasStepped}
use Rattle.std.specs.FinMap as map
use Rattle.scope_index.proofs.cancels.CancelIndex.tick.Goals as goal

pub loop-row-init : goal.loop-row-init
loop-row-init c =
    let latest = subst (λ (t : CancelTable). IsLatest t.nodes c.args.place) (sym c.self.view_is) c.requires.latest in
    (passing_start c.args.now c.args.place c.self.inside.deadlines c.self.inside.tree latest, (refl, refl))

pub cancel-requires-clause-added : goal.cancel-requires-clause-added
cancel-requires-clause-added c =
    next_added c.self.inside.before c.self.inside.moment c.args.now c.args.place c.self.inside.deadlines c.loop-row.self-inside.deadlines c.self.inside.tree c.loop-row.self-inside.tree c.self.inside.accounts.items c.in-Some.row
    c.self.invariant c.loop-row.invariant.0 c.in-Some.ensures.first

pub cancel-requires-clause-latest : goal.cancel-requires-clause-latest
cancel-requires-clause-latest c = c.loop-row.invariant.0.latest

pub loop-row-smaller : goal.loop-row-smaller
loop-row-smaller c =
    subst (λ m. map.len m < map.len c.loop-row.self-inside.deadlines) (sym c.in-Some.ensures.removed)
    (shorter c.loop-row.self-inside.deadlines c.in-Some.row c.in-Some.ensures.first.deadline c.in-Some.ensures.first.first.stands)

pub loop-row-preserved : goal.loop-row-preserved
loop-row-preserved c =
    let first = c.self.inside.deadlines in
    let added = next_added c.self.inside.before c.self.inside.moment c.args.now c.args.place first c.loop-row.self-inside.deadlines c.self.inside.tree c.loop-row.self-inside.tree c.self.inside.accounts.items c.in-Some.row c.self.invariant c.loop-row.invariant.0 c.in-Some.ensures.first in (
      subst (λ m. IsPassing c.args.now c.args.place first m c.self.inside.tree c.cancel.new.self) (sym c.in-Some.ensures.removed)
          (subst (IsPassing c.args.now c.args.place first (map.remove c.loop-row.self-inside.deadlines c.in-Some.row) c.self.inside.tree) (sym c.cancel.ensures)
          (passing_step c.args.now c.args.place c.in-Some.row first c.loop-row.self-inside.deadlines c.self.inside.tree c.loop-row.self-inside.tree c.loop-row.invariant.0 c.in-Some.ensures.first added)),
      c.loop-row.invariant.1,
    )

pub invariant_of-self : goal.invariant_of-self
invariant_of-self c =
    let inside = c.self.inside in
    let on = subst (λ (t : CancelTable). t.moment ≤ c.args.now) (sym c.self.view_is) c.requires.forward in
    subst (λ m. AreKept c.loop-row.self-inside.before c.args.now c.loop-row.self-inside.tree c.loop-row.self-inside.accounts.items m) (sym c.in_default.ensures.unchanged)
    (subst (λ b. AreKept b c.args.now c.loop-row.self-inside.tree c.loop-row.self-inside.accounts.items c.loop-row.self-inside.deadlines) (sym c.loop-row.invariant.1.0)
    (subst (λ xs. AreKept inside.before c.args.now c.loop-row.self-inside.tree xs c.loop-row.self-inside.deadlines) (sym c.loop-row.invariant.1.1)
    (passing_kept inside.before inside.moment c.args.now c.args.place inside.deadlines c.loop-row.self-inside.deadlines inside.tree c.loop-row.self-inside.tree inside.accounts.items on c.self.invariant c.loop-row.invariant.0 c.in_default.ensures.none)))

pub returns-clause-agrees : goal.returns-clause-agrees
returns-clause-agrees c = λ L h legal was at.
    let inside = c.self.inside in
    let was_inside = subst (AreCancelsOf h) (sym c.self.view_is) was in
    let rows = passing_ticked inside.before inside.moment c.args.now c.args.place inside.deadlines c.loop-row.self-inside.deadlines inside.tree c.loop-row.self-inside.tree inside.accounts.items c.self.invariant c.loop-row.invariant.0 c.in_default.ensures.none in
    let kept = c.loop-row.self-inside in
    let old : CancelTable = record { before = inside.before; moment = inside.moment; nodes = inside.tree; accounts = inside.accounts.items } in
    let new : CancelTable = record { before = kept.before; moment = c.args.now; nodes = kept.tree; accounts = kept.accounts.items } in
    let stepped : HasStepped old new (ticked inside.moment c.args.now c.args.place) = record { before = c.loop-row.invariant.1.0; length = c.loop-row.invariant.0.length; rows = rows } in
    ticked_next L h c.args.now old new legal was_inside
    (subst (λ p. HasStepped old new (ticked inside.moment c.args.now p)) at stepped) refl c.loop-row.invariant.1.1
