-- A command has a reason just if its reply is a refusal.
use Rattle.std.specs.Prelude.{if◌then◌else◌, ◌||◌, ◌≡◌}
use Rattle.script_jobs.specs.{ℕ, Ask, Bool, Checked, Command, Do, Err, Event, EventsFit, History, None, NotJoined, Ok, Option, Origin, Outcome, QueriesFit, Query, Realm, Refusal, RepliesFit, Reply}
use Rattle.script_jobs.specs.{Result, Retire, RetirementsFit, Some, answer_to, answering, base_of, binding_reply, check_of, checks, command_reason, command_why, event_reply_of, false, fault_reply, followed}
use Rattle.script_jobs.specs.{is_already, is_err, is_refused, is_some, joined, joins, list_any, outcome, outcome_check, query_check, refusal_said, refused_alone, refused_or, refusing, replied, reply_to, result_reply}
use Rattle.script_jobs.specs.{retire_check, row_check, scope_check, then_check, told_base, true, why_if, Explained}
use Rattle.script_jobs.proofs.Words.{◌∙◌, ap, checks_at, eq-eqb, list_any-push, ok_or, opening_stays, outcome_there, owner_passed, refl, scope_passes, sym}

-- ---- events

-- if a join is accepted, it has an outcome
outcome_said : (o : Option Outcome) → (o ≡ None → ⊥) → refusal_said (replied Reply.Outcome (ok_or o NotJoined)) ≡ Ok tt
outcome_said None there = absurd (there refl)
outcome_said (Some x) there = refl

or_true : (b : Bool) → (b || true) ≡ true
or_true true = refl
or_true false = refl

joined_then : (h : History) (a s : ℕ) → joined (followed h (Event.Join a s)) s ≡ true
unfolding joined
joined_then h a s = list_any-push (joins s) h.events (Event.Join a s) ∙ (ap (λ b. list_any (joins s) h.events || b) (eq-eqb s s refl) ∙ or_true (list_any (joins s) h.events))

outcome_passes : (h : History) (s : ℕ) → scope_check h s ≡ Ok tt → joined h s ≡ true → outcome_check h s ≡ Ok tt
unfolding outcome_check checks then_check
outcome_passes h s known done = rw (known, done) refl

join_told : (realm : Realm) (a s : ℕ) → check_of realm.limits realm.history (Event.Join a s) ≡ Ok tt → outcome (followed realm.history (Event.Join a s)) s ≡ None → ⊥
unfolding row_check
join_told realm a s passes =
    let h = realm.history in
    let e = Event.Join a s in
    let owner = owner_passed h a s (checks_at _ 2 _ passes refl) in
    let known = scope_passes (followed h e) s owner.opened (opening_stays h e s owner.opened owner.is) in
    outcome_there (followed h e) s (outcome_passes (followed h e) s known (joined_then h a s))

told_fits : (realm : Realm) (e : Event) → check_of realm.limits realm.history e ≡ Ok tt → refusal_said (event_reply_of realm.history e) ≡ Ok tt
told_fits realm (Event.Join actor scope) passes = outcome_said (outcome (followed realm.history (Event.Join actor scope)) scope) (join_told realm actor scope passes)
told_fits realm _ passes = refl

do_fits : (c : Checked) (already : Bool) (told : Reply) → (c ≡ Ok tt → refusal_said told ≡ Ok tt) → refusal_said (refused_or c (if already then Reply.Already else told)) ≡ c
do_fits (Ok done) true told fits = refl
do_fits (Ok done) false told fits = fits refl
do_fits (Err r) already told fits = refl

-- ---- retirements and queries

retire_fits : (c : Checked) (b : Origin) → refusal_said (replied told_base (answering c b)) ≡ c
retire_fits (Ok done) b = refl
retire_fits (Err r) b = refl

module _ {A : Type 0} (tell : A → Reply) (tells : (x : A) → refusal_said (tell x) ≡ Ok tt) where
  answer_fits : (c : Checked) (x : A) → refusal_said (replied tell (answering c x)) ≡ c
  answer_fits (Ok done) x = tells x
  answer_fits (Err r) x = refl

  result_fits : (r : Result A Refusal) → refusal_said (replied tell r) ≡ refused_alone r
  result_fits (Ok x) = tells x
  result_fits (Err r) = refl

query_fits : (h : History) (q : Query) → refusal_said (answer_to h q) ≡ query_check h q
unfolding answer_to query_check
query_fits h (Query.State task) = answer_fits Reply.State (λ x. refl) _ _
query_fits h (Query.Stage task) = answer_fits Reply.Stage (λ x. refl) _ _
query_fits h (Query.Result actor task) = result_fits Reply.Value (λ x. refl) (result_reply h actor task)
query_fits h (Query.Fault actor task) = result_fits Reply.Fault (λ x. refl) (fault_reply h actor task)
query_fits h (Query.Cause scope) = answer_fits Reply.Cause (λ x. refl) _ _
query_fits h (Query.Until scope) = answer_fits Reply.Until (λ x. refl) _ _
query_fits h (Query.Counts scope) = answer_fits Reply.Counts (λ x. refl) _ _
query_fits h (Query.Get actor key) = result_fits Reply.Value (λ x. refl) (binding_reply h actor key)

pub replies_fit : EventsFit → RetirementsFit → QueriesFit → RepliesFit
unfolding reply_to command_reason
replies_fit events retirements queries realm (Do e) = do_fits (check_of realm.limits realm.history e) (is_already realm.history e) (event_reply_of realm.history e) (told_fits realm e) ∙ events realm.limits realm.history e
replies_fit events retirements queries realm (Retire actor) = retire_fits (retire_check realm.history actor) (base_of realm.history) ∙ retirements realm.limits realm.history actor
replies_fit events retirements queries realm (Ask asked) = query_fits realm.history asked ∙ queries realm.limits realm.history asked

-- ---- just a refused command has a reason

err_said : (reply : Reply) → is_refused reply ≡ is_err (refusal_said reply)
err_said (Reply.Refused r) = refl
err_said _ = refl

err_of : (e : Explained) → is_err (refusing e) ≡ is_some (why_if e)
err_of (Ok done) = refl
err_of (Err r) = refl

pub reason_if_refused : RepliesFit → (realm : Realm) (c : Command) → is_some (command_why realm c) ≡ is_refused (reply_to realm c)
reason_if_refused fit realm c = sym (err_said (reply_to realm c) ∙ (ap is_err (fit realm c) ∙ err_of (command_reason realm c)))
