-- An accepted join answers what the log of its scope told, and adds itself alone to it; so the log tells
-- what it would give.
use Rattle.std.proofs.Common.{[], ℕ, ◌&&◌, ◌++◌, ◌||◌, ◌∙◌, ◌∷◌, ◌≡◌, ◌≤◌, Bool, None, Ok, Option, Some, ap, arith, cond, false, length, nat_le, not, option_map, refl, slice_index, subst, sym, true}
use Rattle.scope_log.specs.{Accepts, CauseKind, Deadline, Event, FirstCancel, History, IsEarliest, Join, Joiner, JoinsGoByLogs, Legal, Limits, LogValue, Opening, Origin, OwnCancel, Words.cause, Words.joined, Words.moment}
use Rattle.scope_log.specs.{answer_in, before_first, before_join, chain_by, check_of, cons_option, deadline, direct_kind, earliest, entries_next, entry_of, first_cancel, followed, is_cancelled, is_join, joiner_fires, joins}
use Rattle.scope_log.specs.{list_any, log, mark_next, mark_of, opening, option_map_or, option_or, outcome_in, outer, overdue, own, own_cancel, preview, preview_in, row_check, with_join}
use Rattle.scope_log.proofs.Words.{IsOpened, along, append-nil, cancel_earliest, cancel_grows, cancel_of, checks_at, deadline_grows, eq-eqb, false_from_ne_true, joined_grows, legal_push, list_any-append, moment_grows, not_refused}
use Rattle.scope_log.proofs.Words.{opening_same, opening_stays, own_from, own_next, own_place, own_stays}
use Rattle.scope_log.proofs.{FirstParts.before_first-append, LogOutcomes.joined_told, LogTells.entries_there, LogTells.tells_outcome, NewLogs.log_grows, NewLogs.log_there}
use Rattle.scope_log.specs.declared.entries.LogEntry.TheVariants as entry

-- ---- a join cancels nothing

-- a scope whose deadline came has a cancel of its own
OverdueIsOwned : History → Type 0
OverdueIsOwned h = (s : ℕ) (o : Opening) → opening h s ≡ Some o → overdue h s ≡ true → own h s ≡ None → ⊥

owned_start : (b : Origin) → OverdueIsOwned (record { base = b; events = [] })
unfolding OverdueIsOwned opening earliest
owned_start b s o is late none = absurd cc

owned_by : (w : Option OwnCancel) (direct : Option CauseKind) (fires late : Bool) (n : ℕ) → late ≡ true → option_or w (option_map (own_from n) (option_or direct (cond fires (Some Joiner) (cond late (Some Deadline) None)))) ≡ None → ⊥
owned_by (Some w) direct fires late n is none = absurd cc
owned_by None (Some k) fires late n is none = absurd cc
owned_by None None true late n is none = absurd cc
owned_by None None false true n is none = absurd cc
owned_by None None false false n is none = absurd cc

owned_step : (h : History) (e : Event) → OverdueIsOwned (followed h e)
unfolding OverdueIsOwned
owned_step h e s o is late none =
    owned_by (own h s) (direct_kind h s e) (joiner_fires (followed h e) s e) (overdue (followed h e) s) (length h.events) late (sym (own_next h e s o is) ∙ none)

overdue_owned : (L : Limits) (h : History) (s : ℕ) (o : Opening) → Legal L h → opening h s ≡ Some o → overdue h s ≡ true → own h s ≡ None → ⊥
unfolding OverdueIsOwned
overdue_owned L h s o legal is late none = along L OverdueIsOwned owned_start (λ g e lawful ok so. owned_step g e) h legal s o is late none

less_overdue : (j b x : Bool) → (not (j || b) && x) ≡ true → (not j && x) ≡ true
less_overdue true b x is = absurd cc
less_overdue false true x is = absurd cc
less_overdue false false x is = is

-- a join makes no scope overdue
overdue_before : (h : History) (a s q : ℕ) (o : Opening) → opening h q ≡ Some o → overdue (followed h (Join a s)) q ≡ true → overdue h q ≡ true
unfolding overdue
overdue_before h a s q o is late =
    let J = Join a s in
    less_overdue (joined h q) (joins q J) (option_map_or (λ d. nat_le d (moment h)) (deadline h q) false)
    (ap (λ b. not b && option_map_or (λ d. nat_le d (moment h)) (deadline h q) false) (sym (joined_grows h J q))
    ∙ (ap (λ m. not (joined (followed h J) q) && option_map_or (λ d. nat_le d m) (deadline h q) false) (sym (moment_grows h J))
    ∙ (ap (λ x. not (joined (followed h J) q) && option_map_or (λ d. nat_le d (moment (followed h J))) x false) (sym (deadline_grows h J q o is))
    ∙ late)))

unowned_by : (w : Option OwnCancel) (late : Bool) (n : ℕ) → w ≡ None → late ≡ false → option_or w (option_map (own_from n) (cond late (Some Deadline) None)) ≡ None
unowned_by None false n none early = refl
unowned_by None true n none early = absurd cc
unowned_by (Some w) late n none early = absurd cc

module _ (L : Limits) (h : History) (a s : ℕ) (legal : Legal L h) where
  unowned : (q : ℕ) (o : Opening) → opening h q ≡ Some o → own h q ≡ None → own (followed h (Join a s)) q ≡ None
  unfolding joiner_fires
  unowned q o is none =
      own_next h (Join a s) q o (opening_stays h (Join a s) q o is)
      ∙ unowned_by (own h q) (overdue (followed h (Join a s)) q) (length h.events) none
      (false_from_ne_true (overdue (followed h (Join a s)) q) (λ late. overdue_owned L h q o legal is (overdue_before h a s q o is late) none))

  -- a cancel that a scope has of its own stood before the join
  own_earlier : (q : ℕ) (v w : Option OwnCancel) (c : FirstCancel) → own h q ≡ v → own (followed h (Join a s)) q ≡ w → option_map (cancel_of q) w ≡ Some c → length h.events ≤ c.place → ⊥
  own_earlier q v None c was is found late = absurd cc
  own_earlier q (Some w) (Some x) c was is found late =
      let same : cancel_of q w ≡ c = cc (own_stays h (Join a s) q w was, is, found) in
      absurd (omega (arith, (own_place h q w was).0, late, ap (λ (y : FirstCancel). y.place) same))
  own_earlier q None (Some x) c was is found late =
      let there = (own_place (followed h (Join a s)) q x is).1 in
      let opened = sym (opening_same h (Join a s) q refl) ∙ there.is in
      absurd (cc (is, unowned q there.opened opened was))

  cancel_by_join : (c : Option FirstCancel) → IsOpened h s → first_cancel h s ≡ None → first_cancel (followed h (Join a s)) s ≡ c → c ≡ None
  unfolding first_cancel
  cancel_by_join None it none is = refl
  cancel_by_join (Some c) it none is =
      let g = followed h (Join a s) in
      let late = (cancel_grows L h (Join a s) s legal it).fresh c none is in
      let first = subst (IsEarliest (own_cancel g) (chain_by (outer g) s)) is (cancel_earliest (outer g) (own_cancel g) s) in
      let q = slice_index (chain_by (outer g) s) first.0 in
      absurd (own_earlier q (own h q) (own g q) c refl refl first.1.stands late)

  -- a join adds no mark
  no_mark : IsOpened h s → mark_next h (Join a s) s ≡ None
  unfolding is_cancelled cause
  no_mark it = by (first_cancel h s) refl
    where
      by : (c : Option FirstCancel) → first_cancel h s ≡ c → mark_next h (Join a s) s ≡ None
      by None was = rw was (ap (λ x. mark_of (option_map (λ (y : FirstCancel). y.cause) x)) (cancel_by_join (first_cancel (followed h (Join a s)) s) it was refl))
      by (Some c) was = rw was refl

  join_alone : IsOpened h s → entries_next h (Join a s) s ≡ entry.Join a ∷ []
  join_alone it =
      ap (λ o. cons_option (entry_of h s (Join a s)) (cons_option o [])) (no_mark it)
      ∙ ap (λ b. cons_option (cond b (Some (entry.Join a)) None) []) (eq-eqb s s refl)

-- ---- what it answers

not_joined : (L : Limits) (h : History) (a s : ℕ) → Accepts L h (Join a s) → joined h s ≡ false
unfolding row_check
not_joined L h a s ok = not_refused _ _ (checks_at _ 4 _ ok.passed refl)

-- a log without a join tells what the join at its end answers
answer_of_last : (a : ℕ) (l : LogValue) → list_any is_join l.entries ≡ false → outcome_in (with_join a l) ≡ Some (answer_in l)
unfolding outcome_in
answer_of_last a l none =
    let J = entry.Join a ∷ [] in
    let some : list_any is_join (l.entries ++ J) ≡ true = list_any-append is_join l.entries J ∙ ap (λ b. b || true) none in
    let rest : before_first is_join (l.entries ++ J) ≡ l.entries = before_first-append is_join l.entries J ∙ (ap (λ b. cond b (before_first is_join l.entries) (l.entries ++ [])) none ∙ append-nil l.entries) in
    ap (λ b. cond b (Some (answer_in (before_join (with_join a l)))) None) some ∙ ap (λ es. Some (answer_in (record l { entries = es }))) rest

pub joins_go : JoinsGoByLogs
joins_go L h a s l legal ok is =
    let it = log_there h s l is in
    let more = (log_grows L h (Join a s) s legal ok).kept l is in
    let added = more ∙ ap (λ es. Some (record l { entries = l.entries ++ es })) (join_alone L h a s legal (record { opened = it.opened; is = it.is })) in
    let none = ap (list_any is_join) (entries_there h s l is) ∙ (joined_told L h s legal ∙ not_joined L h a s ok) in
    record {
      answers = sym (tells_outcome L (followed h (Join a s)) s (with_join a l) (legal_push L h (Join a s) legal ok) added) ∙ answer_of_last a l none;
      adds = added;
    }

-- the log shows what an accepted join would give
pub preview_told : (L : Limits) (h : History) (a s : ℕ) (l : LogValue) → Legal L h → check_of L h (Join a s) ≡ Ok tt → log h s ≡ Some l → preview h a s ≡ Some (preview_in a l)
unfolding preview
preview_told L h a s l legal passed is =
    let it = joins_go L h a s l legal (record { passed = passed; recorded = refl }) is in
    rw it.answers (rw it.adds refl)
