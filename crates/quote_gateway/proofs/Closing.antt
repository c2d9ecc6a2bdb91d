-- What the close of a request's scope adds, with a report or without.
use Rattle.std.specs.Prelude.{◌++◌, ◌∷◌}
use Rattle.quote_gateway.specs.{[], ℕ, Already, BeginClose, Begins, Cancelling, CloseReport, ClosesBare, ClosesDown, ClosesHere, Ends, EndsScope, Err, Happened, IsLegal, IsOk, KeepsTasks}
use Rattle.quote_gateway.specs.{List, OwnerValue, RealmStep, Recorded, Refusal, Result, SeesMore, StaysBegunHere, StaysHere, TeamValue, Verdict, end_step, map, numbers, shapes}
use Rattle.quote_gateway.proofs.Words.{Ok, beginning_legal, inl, inr, refl, subst, sym}
use Rattle.quote_gateway.proofs.Going.{added, agreed, for_first, goes_on, looked, sees_on, tokens_on}

pub begins_keeps : (old new : OwnerValue) (s : ℕ) (how : Cancelling) → Begins old new s (Ok how) → KeepsTasks old new
begins_keeps old new s Recorded it = added old.limits old.actor old.seen new.seen (Happened (BeginClose old.actor s)) it.0 refl
begins_keeps old new s Already it = looked old.limits old.actor old.seen new.seen it.0.looks

pub refused_keeps : (old new : OwnerValue) (s : ℕ) (refusal : Refusal) → Begins old new s (Err refusal) → KeepsTasks old new
refused_keeps old new s refusal it = elim it [
  | inl by ↦ looked old.limits old.actor old.seen new.seen by.looks
  | inr over ↦ looked old.limits old.actor old.seen new.seen over.0.looks
]

-- with a report
pub reported_ends : (old new : OwnerValue) (s : ℕ) (team : TeamValue) (report : CloseReport) → ClosesHere old new s team report → EndsScope old new s
reported_ends old new s team report it =
    let begun = it.begun in
    let ends = it.ends.ends in
    let there = ends.there in
    let nested = numbers report.nested.items in
    let same = sees_on old begun there it.here.same ends.same in
    record {
      before = there.seen;
      goes = tokens_on old begun there shapes it.here.same (begins_keeps old begun s it.here.how it.here.begins) (looked begun.limits begun.actor begun.seen there.seen ends.looks);
      nested = nested;
      ends = subst (λ (t : OwnerValue). Ends t.limits t.actor s nested there.seen new.seen) same ends.done.ends;
    }

-- what was refused with one has closed nothing
held_keeps : (old new : OwnerValue) (s : ℕ) (team left : TeamValue) (refusal : Refusal) → StaysBegunHere old new s team left refusal → KeepsTasks old new
held_keeps old new s team left refusal it =
    let begun = it.begun in
    let first = begins_keeps old begun s it.here.how it.here.begins in
    elim it.held [
      | inl held ↦ tokens_on old begun new shapes it.here.same first (looked begun.limits begun.actor begun.seen new.seen held.holds.looks)
      | inr none ↦ subst (λ (t : OwnerValue). KeepsTasks old t) (sym none.0) first
    ]

pub stays_keeps : (old new : OwnerValue) (s : ℕ) (team left : TeamValue) (refusal : Refusal) → StaysHere old new s team left refusal → KeepsTasks old new
stays_keeps old new s team left refusal it = elim it [
  | inl by ↦ refused_keeps old new s refusal by.0
  | inr held ↦ held_keeps old new s team left refusal held
]

-- without one
down_ends : (old new : OwnerValue) (s : ℕ) (nested : List ℕ) → ClosesDown old new s nested → EndsScope old new s
down_ends old new s nested it =
    let begun = it.begun in
    let ends = it.ends in
    let rest = map (end_step begun.actor) (nested ++ s ∷ []) in
    let lawful = beginning_legal begun.limits ends.before rest (subst (λ (l : List RealmStep). IsLegal begun.limits l) ends.ends.are ends.ends.legal) in
    let waited = for_first old begun shapes begun.seen ends.before it.same (agreed begun.limits begun.actor begun.seen ends.before ends.waited lawful) in
    record {
      before = ends.before;
      goes = goes_on old.limits (shapes old.actor) old.seen begun.seen ends.before (begins_keeps old begun s it.how it.begins) waited;
      nested = nested;
      ends = subst (λ (t : OwnerValue). Ends t.limits t.actor s nested ends.before new.seen) it.same ends.ends;
    }

bare_ends : (old new : OwnerValue) (s : ℕ) (result : Result Verdict Refusal) → IsOk result → ClosesBare old new s result → EndsScope old new s
bare_ends old new s (Ok how) ok it = down_ends old new s it.0.0 it.0.1
bare_ends old new s (Err refusal) ok it = absurd cc

-- so a close that was refused with a report, and then went on without, closes the scope
pub ends_after : (old mid new : OwnerValue) (s : ℕ) (result : Result Verdict Refusal) → SeesMore old mid → KeepsTasks old mid → IsOk result → ClosesBare mid new s result → EndsScope old new s
ends_after old mid new s result same first ok it =
    let ends = bare_ends mid new s result ok it in
    record {
      before = ends.before;
      goes = goes_on old.limits (shapes old.actor) old.seen mid.seen ends.before first (for_first old mid shapes mid.seen ends.before same ends.goes);
      nested = ends.nested;
      ends = subst (λ (t : OwnerValue). Ends t.limits t.actor s ends.nested ends.before new.seen) same ends.ends;
    }
