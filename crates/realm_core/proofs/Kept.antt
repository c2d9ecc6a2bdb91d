-- An actor's scope that is not closed stays so, whatever others do.
use Rattle.std.proofs.Common.{[], ℕ, ◌++◌, ◌==◌, ◌||◌, ◌∙◌, ◌∷◌, ◌≡◌, Bool, Err, IfOk, List, MatchResult, None, Ok, Result, Some, ap, false, refl, subst, sym, true}
use Rattle.realm_core.specs.{Accepts, Added, Agrees, Already, Ask, Asked, BeginClose, CanClose, Cancelling, CloseReport, DidRecord, Ends.Ends, EndsLater, Event, FoundSo, FoundUnsettled, Happened, HasLooked, History, HoldsUp}
use Rattle.realm_core.specs.{IsBegun, IsDone, IsLeft, IsLegal, IsOpenOf, Legal, Limits, Looks, MayReport, Opening, OwnerValue, Passes, RealmStep, Recorded, Refusal, Refused, Retirement, TicketValue, TokenOf, WaitsOn, advance}
use Rattle.realm_core.specs.{asked, check_of, checks, closed, closing, covers, ends, followed, history_of, history_seen, is_own, owns, row_check, step_by, then_check}
use Rattle.realm_core.proofs.Words.{IsActor, beginning_legal, both_ways, checks_at, closed_grows, closing_grows, closing_stays, ender_passed, eq-eqb, false_from_ne_true, history-push, legal_history, live_is_unclosed, nothing_open}
use Rattle.realm_core.proofs.Words.{opening_stays, or_from, owner_passed, owners_act, retired_without_scopes, scope_passes}
use Rattle.realm_core.proofs.{EndPasses.actor_passes, Joining.agrees_on, Others.still}
use Rattle.share_ledger.specs.declared.steps.Ask.TheVariants as ask

-- ---- one step of another's

-- no event of another closes it
not_ended : (L : Limits) (h : History) (a s : ℕ) (e : Event) → IsOpenOf h a s → Accepts L h e → is_own (TokenOf a) (Happened e) ≡ false → ends s e ≡ false
not_ended L h a s e it ok other =
    false_from_ne_true (ends s e) (λ ended.
    let row = ender_passed L h e s ended ok in
    let owner = row.2.owner in
    let both : Some it.opened ≡ Some owner.opened = sym it.is ∙ owner.is in
    let same : it.opened ≡ owner.opened = cc in
    let actor : row.0 ≡ a = sym owner.by ∙ (ap (λ (o : Opening). o.actor) (sym same) ∙ it.by) in
    let told = ap (λ (x : Event). is_own (TokenOf a) (Happened x)) row.1 in
    both_ways (is_own (TokenOf a) (Happened e)) other (told ∙ eq-eqb row.0 a actor))

-- and nothing that is asked for does
asks_no_end_close : (s : ℕ) (q : Ask) → ends s (asked q) ≡ false
asks_no_end_close s (ask.Cancel scope) = refl
asks_no_end_close s (ask.Move scope deadline) = refl
asks_no_end_close s (ask.Tick now) = refl

open_event : (h : History) (a s : ℕ) (e : Event) → IsOpenOf h a s → ends s e ≡ false → IsOpenOf (followed h e) a s
open_event h a s e it other = record {
  opened = it.opened;
  is = opening_stays h e s it.opened it.is;
  by = it.by;
  unclosed = closed_grows h e s ∙ or_from (closed h s) (ends s e) it.unclosed other;
}

open_step : (L : Limits) (h : History) (a s : ℕ) (x : RealmStep) → Legal L h → IsOpenOf h a s → Passes L h x → is_own (TokenOf a) x ≡ false → IsOpenOf (advance h x) a s
open_step L h a s (Happened e) legal it ok other = open_event h a s e it (not_ended L h a s e it ok other)
open_step L h a s (Asked actor q) legal it ok other = open_event h a s (asked q) it (asks_no_end_close s q)
open_step L h a s Retirement legal it ok other = absurd (both_ways (closed h s) it.unclosed (nothing_open L h s it.opened legal (retired_without_scopes h ok) it.is))

begun_step : (L : Limits) (h : History) (a s : ℕ) (x : RealmStep) → Legal L h → IsBegun h a s → Passes L h x → is_own (TokenOf a) x ≡ false → IsBegun (advance h x) a s
begun_step L h a s (Happened e) legal it ok other = record { of = open_event h a s e it.of (not_ended L h a s e it.of ok other); begun = closing_stays h e s it.begun }
begun_step L h a s (Asked actor q) legal it ok other = record { of = open_event h a s (asked q) it.of (asks_no_end_close s q); begun = closing_stays h (asked q) s it.begun }
begun_step L h a s Retirement legal it ok other = absurd (both_ways (closed h s) it.of.unclosed (nothing_open L h s it.of.opened legal (retired_without_scopes h ok) it.of.is))

-- ---- and any number of them

pub open_still : (L : Limits) (a s : ℕ) (old new : List RealmStep) → Agrees (TokenOf a) old new → IsLegal L new → IsOpenOf (history_of old) a s → IsOpenOf (history_of new) a s
open_still L a s = still L a (λ h. IsOpenOf h a s) (λ h x. open_step L h a s x)

pub begun_still : (L : Limits) (a s : ℕ) (old new : List RealmStep) → Agrees (TokenOf a) old new → IsLegal L new → IsBegun (history_of old) a s → IsBegun (history_of new) a s
begun_still L a s = still L a (λ h. IsBegun h a s) (λ h x. begun_step L h a s x)

-- ---- the beginning of a close

-- an own scope that is not closed can be begun to be closed
pub begin_passes : (L : Limits) (h : History) (a s : ℕ) → Legal L h → IsOpenOf h a s → check_of L h (BeginClose a s) ≡ Ok tt
unfolding row_check checks then_check owns
begin_passes L h a s legal it =
    let acts = subst (IsActor h) it.by (owners_act L h s it.opened legal it.is it.unclosed) in
    let owner : (it.opened.actor == a) ≡ true = eq-eqb it.opened.actor a it.by in
    rw (actor_passes h a acts, scope_passes h s it.opened it.is, it.is, owner) refl

or_right_true : (b c : Bool) → c ≡ true → (b || c) ≡ true
or_right_true true c so = refl
or_right_true false c so = so

covers_itself : (h : History) (s : ℕ) → covers h s s ≡ true
unfolding covers
covers_itself h s = rw (eq-eqb s s refl) refl

-- once it is recorded, the close has begun
begun_by : (L : Limits) (h : History) (a s : ℕ) → Legal L h → Accepts L h (BeginClose a s) → IsBegun (followed h (BeginClose a s)) a s
unfolding row_check
begun_by L h a s legal ok =
    let owner = owner_passed h a s (checks_at _ 2 _ ok.passed refl) in
    let e = BeginClose a s in
    record {
      of = record {
        opened = owner.opened;
        is = opening_stays h e s owner.opened owner.is;
        by = owner.by;
        unclosed = closed_grows h e s ∙ or_from (closed h s) (ends s e) (live_is_unclosed L h s legal ok.recorded) refl;
      };
      begun = closing_grows h e s ∙ or_right_true (closing h s) _ (covers_itself h s);
    }

pub begun_recorded : (old new : OwnerValue) (s : ℕ) → Added old new (Happened (BeginClose old.actor s)) → IsBegun (history_seen new) old.actor s
begun_recorded old new s it =
    let x = Happened (BeginClose old.actor s) in
    let lawful = beginning_legal old.limits it.there (x ∷ []) (subst (λ (xs : List RealmStep). IsLegal old.limits xs) it.is it.legal) in
    let here = begun_by old.limits (history_of it.there) old.actor s (legal_history old.limits it.there lawful) it.accepted in
    subst (λ (h : History). IsBegun h old.actor s) (sym (ap history_of it.is ∙ history-push it.there x)) here

-- which of the two a call did
pub did_record : (old new : OwnerValue) (e : Event) (result : Result Cancelling Refusal) (how : Cancelling) → result ≡ Ok how → how ≡ Recorded → DidRecord old new e result → Added old new (step_by old.actor e)
did_record old new e (Ok Recorded) how is same said = said
did_record old new e (Ok Already) how is same said = absurd (cc (is, same))
did_record old new e (Err r) how is same said = absurd (cc is)

pub did_find : (old new : OwnerValue) (e : Event) (result : Result Cancelling Refusal) (how : Cancelling) → result ≡ Ok how → how ≡ Already → DidRecord old new e result → FoundSo old new e
did_find old new e (Ok Already) how is same said = said
did_find old new e (Ok Recorded) how is same said = absurd (cc (is, same))
did_find old new e (Err r) how is same said = absurd (cc is)

pub did_refuse : (old new : OwnerValue) (e : Event) (result : Result Cancelling Refusal) (r : Refusal) → result ≡ Err r → DidRecord old new e result → Refused old new (step_by old.actor e) r
did_refuse old new e (Ok Recorded) r is said = absurd (cc is)
did_refuse old new e (Ok Already) r is said = absurd (cc is)
did_refuse old new e (Err q) r is said = let same : q ≡ r = cc in subst (λ (x : Refusal). Refused old new (step_by old.actor e) x) same said

-- and what its actor asks for, a cancel, a move or a tick, leaves it so
pub begun_asked : (old new : OwnerValue) (s : ℕ) (q : Ask) → Added old new (Asked old.actor q) → IsBegun (history_seen old) old.actor s → IsBegun (history_seen new) old.actor s
begun_asked old new s q it begun =
    let x = Asked old.actor q in
    let lawful = beginning_legal old.limits it.there (x ∷ []) (subst (λ (xs : List RealmStep). IsLegal old.limits xs) it.is it.legal) in
    let there = begun_still old.limits old.actor s old.seen it.there it.agrees lawful begun in
    let here : IsBegun (followed (history_of it.there) (asked q)) old.actor s = record {
      of = open_event (history_of it.there) old.actor s (asked q) there.of (asks_no_end_close s q);
      begun = closing_stays (history_of it.there) (asked q) s there.begun;
    } in
    subst (λ (h : History). IsBegun h old.actor s) (sym (ap history_of it.is ∙ history-push it.there x)) here

-- if it was begun before, and isn't over, it is so too
pub begun_already : (old new : OwnerValue) (s : ℕ) → FoundSo old new (BeginClose old.actor s) → closed (history_seen new) s ≡ false → IsBegun (history_seen new) old.actor s
unfolding row_check
begun_already old new s it unclosed =
    let owner = owner_passed (history_seen new) old.actor s (checks_at _ 2 _ it.passed refl) in
    record { of = record { opened = owner.opened; is = owner.is; by = owner.by; unclosed = unclosed }; begun = it.already }

-- what has begun can end once nothing of it waits or runs
pub can_close : (h : History) (a s : ℕ) → IsBegun h a s → FoundUnsettled h s None → CanClose h a s
can_close h a s it found = record {
  opened = it.of.opened;
  is = it.of.is;
  by = it.of.by;
  begun = it.begun;
  unclosed = it.of.unclosed;
  done = λ t x at by more still. found it.of.opened it.of.is it.of.unclosed t x at (by ∙ sym it.of.by) more still;
}

-- until then a scope holds it up
pub held_up : (h : History) (a s t : ℕ) → IsBegun h a s → FoundUnsettled h s (Some t) → HoldsUp h a s t
held_up h a s t it found = subst (λ (n : ℕ). HoldsUp h n s t) it.of.by (found it.of.opened it.of.is it.of.unclosed)

-- a call that only looked leaves it so
pub begun_looked : (L : Limits) (a s : ℕ) (old new : List RealmStep) → Looks (TokenOf a) L old new → IsBegun (history_of old) a s → IsBegun (history_of new) a s
begun_looked L a s old new looks it = begun_still L a s old new looks.agrees looks.legal it

-- what was looked up holds of what the token has seen by then
pub can_close_now : (old new : OwnerValue) (s : ℕ) (steps : List RealmStep) → new ≡ record old { seen = new.seen } → steps ≡ new.seen → HasLooked old new → IsBegun (history_seen old) old.actor s → FoundUnsettled (history_of steps) s None → CanClose (history_of steps) new.actor s
can_close_now old new s steps same is looks it found =
    let begun = begun_looked old.limits old.actor s old.seen new.seen looks it in
    let here = subst (λ (xs : List RealmStep). IsBegun (history_of xs) old.actor s) (sym is) begun in
    subst (λ (a : ℕ). CanClose (history_of steps) a s) (sym (ap (λ (t : OwnerValue). t.actor) same)) (can_close (history_of steps) old.actor s here found)

pub waits_on : (old new : OwnerValue) (s busy : ℕ) (steps : List RealmStep) → steps ≡ new.seen → HasLooked old new → IsBegun (history_seen old) old.actor s → FoundUnsettled (history_of steps) s (Some busy) → WaitsOn old new s
waits_on old new s busy steps is looks it found =
    let begun = begun_looked old.limits old.actor s old.seen new.seen looks it in
    record {
      looks = looks;
      begun = begun;
      busy = busy;
      holds_up = held_up (history_seen new) old.actor s busy begun (subst (λ (xs : List RealmStep). FoundUnsettled (history_of xs) s (Some busy)) is found);
    }

-- what a hold did that ended the close with a report, or left it
pub reported_or_left : (old there new : OwnerValue) (s : ℕ) (tickets left : List TicketValue) (result : Result CloseReport Refusal) → there ≡ record old { seen = there.seen } → HasLooked old there → IsBegun (history_seen old) old.actor s
    → IfOk result (λ report. IsDone there new s tickets report) → MatchResult result (λ _. Unit {0}) (λ refusal. IsLeft there new s tickets left refusal) → MayReport old new s tickets left (Some result)
reported_or_left old there new s tickets left (Ok report) same looks it done unless = record { there = there; looks = looks; same = same; done = done }
reported_or_left old there new s tickets left (Err refusal) same looks it done unless =
    let here = unless.same in
    let seen : HasLooked old new = subst (λ (t : OwnerValue). HasLooked old t) (sym here) looks in
    record {
      looks = seen;
      begun = begun_looked old.limits old.actor s old.seen new.seen seen it;
      still = subst (λ (t : OwnerValue). IsLeft t new s tickets left refusal) (sym here) unless;
    }

-- the close of an own scope that is not closed is not refused
pub refused_sure : (old new : OwnerValue) (s : ℕ) (r : Refusal) → Refused old new (Happened (BeginClose old.actor s)) r → IsOpenOf (history_seen old) old.actor s → ⊥
refused_sure old new s r it mine =
    let still = open_still old.limits old.actor s old.seen new.seen it.looks.agrees it.looks.legal mine in
    let passes = begin_passes old.limits (history_seen new) old.actor s (legal_history old.limits new.seen it.looks.legal) still in
    absurd (cc (passes, it.by))

-- nor found to be over
pub closed_sure : (old new : OwnerValue) (s : ℕ) → FoundSo old new (BeginClose old.actor s) → closed (history_seen new) s ≡ true → IsOpenOf (history_seen old) old.actor s → ⊥
closed_sure old new s it over mine =
    let still = open_still old.limits old.actor s old.seen new.seen it.looks.agrees it.looks.legal mine in
    both_ways (closed (history_seen new) s) still.unclosed over

-- what ended later, after what had been seen
pub ends_after : (old now new : OwnerValue) (s : ℕ) (nested : List ℕ) → now ≡ record old { seen = now.seen } → Agrees (TokenOf old.actor) old.seen now.seen → EndsLater now new s nested → EndsLater old new s nested
ends_after old now new s nested same agrees it =
    let actor = ap (λ (t : OwnerValue). t.actor) same in
    let limits = ap (λ (t : OwnerValue). t.limits) same in
    record {
      before = it.before;
      waited = agrees_on (TokenOf old.actor) old.seen now.seen it.before agrees (subst (λ (a : ℕ). Agrees (TokenOf a) now.seen it.before) actor it.waited);
      ends = subst (λ (L : Limits). Ends L old.actor s nested it.before new.seen) limits (subst (λ (a : ℕ). Ends now.limits a s nested it.before new.seen) actor it.ends);
    }
