-- What a join that was tried answers and leaves.
use Rattle.std.proofs.Common.{ℕ, ◌∙◌, ◌≡◌, Err, Ok, Option, Some, ap, inl, inr, option_map, refl, sym, true}
use Rattle.balkreyn_c.specs.{AnswersBare, BareOutcome, Checked, EventReply, History, Join, Limits, Outcome, Realm, Refusal, Tells, after, after_telling, bare_of, check_of, checks, followed, joined, joins, outcome, outcome_check}
use Rattle.balkreyn_c.specs.{row_check, then_check, with_event}
use Rattle.balkreyn_c.proofs.Lemmas.{IsOpened, checks_at, eq-eqb, joined_grows, opening_same, or_right, scope_passed, scope_passes}

joins_opened : (L : Limits) (h : History) (a s : ℕ) → check_of L h (Join a s) ≡ Ok tt → IsOpened h s
unfolding row_check
joins_opened L h a s passed = scope_passed h s (checks_at _ 1 _ passed refl)

passes : (L : Limits) (h : History) (a s : ℕ) → check_of L h (Join a s) ≡ Ok tt → outcome_check (followed h (Join a s)) s ≡ Ok tt
unfolding outcome_check checks then_check
passes L h a s passed =
    let opened = joins_opened L h a s passed in
    let joined_now : joined (followed h (Join a s)) s ≡ true = joined_grows h (Join a s) s ∙ or_right (joined h s) (joins s (Join a s)) (eq-eqb s s refl) in
    rw (scope_passes (followed h (Join a s)) s opened.opened (opening_same h (Join a s) s refl ∙ opened.is), joined_now) refl

-- the event is added
added : (old new : Realm) (a s : ℕ) (told : EventReply) → Tells old (Join a s) (Ok told) new → new ≡ with_event old (Join a s)
added old new a s told is = is.1 ∙ ap (λ (t : EventReply). after_telling old (Join a s) (Ok t)) is.0.1

-- the scope can be asked for its outcome then
pub join_passes : (old new : Realm) (a s : ℕ) (told : EventReply) → Tells old (Join a s) (Ok told) new → outcome_check new.history s ≡ Ok tt
join_passes old new a s told is = rw (added old new a s told is) (passes old.limits old.history a s is.0.0)

answers : (check : Checked) (o : Option Outcome) (bare : BareOutcome) → check ≡ Ok tt → option_map bare_of o ≡ Some bare → AnswersBare check o (Ok bare)
answers check o bare ok is = rw ok is

pub join_answers : (old new : Realm) (a s : ℕ) (told : EventReply) (bare : BareOutcome) → Tells old (Join a s) (Ok told) new → option_map bare_of (outcome new.history s) ≡ Some bare → AnswersBare (check_of old.limits old.history (Join a s)) (outcome (followed old.history (Join a s)) s) (Ok bare)
join_answers old new a s told bare is said =
    answers (check_of old.limits old.history (Join a s)) (outcome (followed old.history (Join a s)) s) bare is.0.0 (ap (λ (r : Realm). option_map bare_of (outcome r.history s)) (sym (added old new a s told is)) ∙ said)

pub join_leaves : (old new : Realm) (a s : ℕ) (told : EventReply) → Tells old (Join a s) (Ok told) new → new ≡ after old (Join a s) (check_of old.limits old.history (Join a s))
join_leaves old new a s told is = rw is.0.0 (added old new a s told is)

-- a join takes no memory
refused_by : (old new : Realm) (a s : ℕ) (r : Refusal) → Tells old (Join a s) (Err r) new → check_of old.limits old.history (Join a s) ≡ Err r
refused_by old new a s r is = elim is.0 [ inl by ↦ by | inr memory ↦ absurd (let none = memory.2 in cc) ]

pub join_refused : (old new : Realm) (a s : ℕ) (r : Refusal) → Tells old (Join a s) (Err r) new → AnswersBare (check_of old.limits old.history (Join a s)) (outcome (followed old.history (Join a s)) s) (Err r)
join_refused old new a s r is = rw (refused_by old new a s r is) refl

pub join_keeps : (old new : Realm) (a s : ℕ) (r : Refusal) → Tells old (Join a s) (Err r) new → new ≡ after old (Join a s) (check_of old.limits old.history (Join a s))
join_keeps old new a s r is = rw (refused_by old new a s r is) is.1
