-- An event that is accepted is told no refusal.
use Rattle.std.proofs.Common.{ℕ, ◌==◌, ◌||◌, ◌∙◌, ◌≡◌, Bool, None, Ok, Option, Some, ap, arith, false, ok_or, refl, true}
use Rattle.script_journal.specs.{Accepts, Do, Event, History, Limits, NotJoined, Outcome, Realm, checks, event_reply_of, followed, is_open, is_refused, joined, known_scope, outcome, outcome_check, realm_after, replied, reply_to}
use Rattle.script_journal.specs.{row_check, scope_check, then_check}
use Rattle.script_journal.proofs.Lemmas.{checks_at, joined_grows, nat_tests, opening_same, outcome_there}
use Rattle.scope_rules.specs.declared.types.events.Event.TheVariants as event
use Rattle.script_words.specs.declared.reply.Reply.TheVariants as reply

-- the realm of the limits with the history
abbrev pub ruled : Limits → History → Realm
ruled L h = record { limits = L; history = h }

pub accepted_adds : (L : Limits) (h : History) (e : Event) → Accepts L h e → realm_after (ruled L h) (Do e) ≡ ruled L (followed h e)
unfolding realm_after
accepted_adds L h e is = rw (is.passed, is.recorded) refl

or_true : (b : Bool) → (b || true) ≡ true
or_true true = refl
or_true false = refl

same_number : (s : ℕ) → (s == s) ≡ true
same_number s = grind (arith, nat_tests)

-- an event that opens nothing gives no scope a number
known_behind : (h : History) (e : Event) (s : ℕ) → is_open e ≡ false → scope_check (followed h e) s ≡ scope_check h s
unfolding known_scope
known_behind h e s none = rw (opening_same h e s none) refl

-- a join that is accepted names a scope
joins_known : (L : Limits) (h : History) (actor scope : ℕ) → Accepts L h (event.Join actor scope) → scope_check h scope ≡ Ok tt
unfolding row_check
joins_known L h actor scope is = checks_at _ 1 _ is.passed refl

-- behind a join that was accepted, what it gave may be asked
may_be_asked : (L : Limits) (h : History) (actor scope : ℕ) → Accepts L h (event.Join actor scope) → outcome_check (followed h (event.Join actor scope)) scope ≡ Ok tt
unfolding outcome_check checks then_check
may_be_asked L h actor scope is =
    let known = joins_known L h actor scope is in
    let there : scope_check (followed h (event.Join actor scope)) scope ≡ Ok tt = known_behind h (event.Join actor scope) scope refl ∙ known in
    let done : joined (followed h (event.Join actor scope)) scope ≡ true = joined_grows h (event.Join actor scope) scope ∙ (ap (λ b. joined h scope || b) (same_number scope) ∙ or_true (joined h scope)) in
    rw (there, done) refl

gave : (o : Option Outcome) → (o ≡ None → ⊥) → is_refused (replied reply.Outcome (ok_or o NotJoined)) ≡ false
gave None some = absurd (some refl)
gave (Some x) some = refl

told_unrefused : (L : Limits) (h : History) (e : Event) → Accepts L h e → is_refused (event_reply_of h e) ≡ false
told_unrefused L h (event.Join actor scope) is = gave (outcome (followed h (event.Join actor scope)) scope) (outcome_there (followed h (event.Join actor scope)) scope (may_be_asked L h actor scope is))
told_unrefused L h _ is = refl

pub accepted_unrefused : (L : Limits) (h : History) (e : Event) → Accepts L h e → is_refused (reply_to (ruled L h) (Do e)) ≡ false
unfolding reply_to
accepted_unrefused L h e is = rw (is.passed, is.recorded) (told_unrefused L h e is)
