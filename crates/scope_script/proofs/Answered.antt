-- From what the book answers of a command to its reply.
use Rattle.std.proofs.Common.{ℕ, ◌&&◌, ◌∙◌, ◌≡◌, ◌⊎◌, Bool, Err, Ok, Option, Result, Some, ap, false, if◌then◌else◌, inl, inr, is_ok, not, refl, subst, sym, true}
use Rattle.scope_script.specs.{Answers, AnswersOrMemory, AnswersValue, Checked, Do, Event, EventReply, History, Memory, Origin, Outcome, Performs, PerformsOrStops, Realm, Refusal, Reply, Retire, Tells, after, after_retiring}
use Rattle.scope_script.specs.{after_telling, answering, base_of, check_of, event_reply_of, is_already, is_join, noted, outcome, outcome_check, passed_reply, realm_after, refused_or, replied, reply_of, reply_to, retire_check}
use Rattle.scope_script.specs.{Tally, done_reply, is_refused, told_base, wants_memory, with_event, with_reply}
use Rattle.scope_rules.specs.declared.types.events.Event.TheVariants as event
use Rattle.script_words.specs.declared.reply.Reply.TheVariants as reply
use Rattle.scope_checks.specs.declared.event_replies.EventReply.TheVariants as told
use Rattle.scope_checks.specs.EventReplies.{event_reply_of as told_of_event}

-- what was told of a cancel or a close, as a reply
noted_reply : (e : Event) (said : Reply) (already : Bool) → reply_of e told.Recorded ≡ said → reply_of e (noted already) ≡ (if already then reply.Already else said)
noted_reply e said true is = refl
noted_reply e said false is = is

-- what is told, as a reply, is what scripts say of it
replies : (h : History) (e : Event) → is_join (Do e) ≡ false → reply_of e (told_of_event h e) ≡ passed_reply h e
replies h (event.Cancel scope) no_join = noted_reply (event.Cancel scope) reply.Cancelled (is_already h (event.Cancel scope)) refl
replies h (event.Join actor scope) no_join = absurd cc
replies h (event.BeginClose actor scope) no_join = noted_reply (event.BeginClose actor scope) reply.Closing (is_already h (event.BeginClose actor scope)) refl
replies h _ no_join = refl

noted_leaves : (old : Realm) (e : Event) (already : Bool) → after_telling old e (Ok (noted already)) ≡ (if not already then with_event old e else old)
noted_leaves old e true = refl
noted_leaves old e false = refl

-- so is what is left
leaves : (old : Realm) (h : History) (e : Event) → after_telling old e (Ok (told_of_event h e)) ≡ (if not (is_already h e) then with_event old e else old)
leaves old h (event.Cancel scope) = noted_leaves old (event.Cancel scope) (is_already h (event.Cancel scope))
leaves old h (event.BeginClose actor scope) = noted_leaves old (event.BeginClose actor scope) (is_already h (event.BeginClose actor scope))
leaves old h _ = refl

-- an event that was accepted has the reply of scripts
pub accepted : (old new : Realm) (e : Event) (told : EventReply) → is_join (Do e) ≡ false → Tells old e (Ok told) new → Performs old (Do e) new (reply_of e told)
unfolding reply_to realm_after
accepted old new e told no_join is =
    let check = is.0.0 in
    let there = is.0.1 in
    record {
      reply = ap (reply_of e) there ∙ replies old.history e no_join ∙ rw check refl;
      realm = is.1 ∙ ap (λ t. after_telling old e (Ok t)) there ∙ leaves old old.history e ∙ rw check refl;
    }

-- an event that was refused has that as its reply, or memory was refused and nothing done
refused_by : (old new : Realm) (e : Event) (r : Refusal) → is_join (Do e) ≡ false → (check_of old.limits old.history e ≡ Err r) ⊎ ((check_of old.limits old.history e ≡ Ok tt) × (r ≡ Memory) × (wants_memory old.history e ≡ true)) → new ≡ old → PerformsOrStops old (Do e) new (reply.Refused r)
unfolding reply_to realm_after
refused_by old new e r no_join (inl by) same = inr (record { reply = rw by refl; realm = rw by same })
refused_by old new e r no_join (inr none) same = inl (record { memory = ap reply.Refused none.1; stopped = rw no_join same })

pub refused : (old new : Realm) (e : Event) (r : Refusal) → is_join (Do e) ≡ false → Tells old e (Err r) new → PerformsOrStops old (Do e) new (reply.Refused r)
refused old new e r no_join is = refused_by old new e r no_join is.0 is.1

done_unrefused : (e : Event) → is_refused (done_reply e) ≡ false
done_unrefused (event.Reject task) = refl
done_unrefused _ = refl

-- no refusal is told of an event that was accepted
unrefused : (e : Event) (told : EventReply) → is_refused (reply_of e told) ≡ false
unrefused e told.Recorded = done_unrefused e
unrefused e told.Done = done_unrefused e
unrefused e _ = refl

-- what an accepted event leaves, and what is told of it
pub accepted_after : (old new : Realm) (e : Event) (told : EventReply) → is_join (Do e) ≡ false → Tells old e (Ok told) new → new ≡ realm_after old (Do e)
accepted_after old new e told no_join is = (accepted old new e told no_join is).realm

pub accepted_said : (old new : Realm) (e : Event) (told : EventReply) → is_join (Do e) ≡ false → Tells old e (Ok told) new → reply_of e told ≡ reply_to old (Do e)
accepted_said old new e told no_join is = (accepted old new e told no_join is).reply

uncounted : (t : Tally) (said : Reply) → is_refused said ≡ false → t ≡ with_reply t said
uncounted t said is = rw is refl

-- it counts as no refusal
pub accepted_counted : (t : Tally) (old new : Realm) (e : Event) (told : EventReply) → is_join (Do e) ≡ false → Tells old e (Ok told) new → t ≡ with_reply t (reply_to old (Do e))
accepted_counted t old new e told no_join is = subst (λ (r : Reply). t ≡ with_reply t r) (accepted_said old new e told no_join is) (uncounted t (reply_of e told) (unrefused e told))

-- an event that was refused, but not for memory, is told so
pub refused_said : (old new : Realm) (e : Event) (r : Refusal) → is_join (Do e) ≡ false → (r ≡ Memory → ⊥) → Tells old e (Err r) new → Performs old (Do e) new (reply.Refused r)
refused_said old new e r no_join other is =
    elim (refused old new e r no_join is) [
      | inl none ↦ absurd (other cc)
      | inr done ↦ done
    ]

-- an event that is no join by its shape
pub no_join : (e : Event) → ((actor scope : ℕ) → e ≡ event.Join actor scope → ⊥) → is_join (Do e) ≡ false
no_join (event.Join actor scope) other = absurd (other actor scope refl)
no_join _ other = refl

-- a join takes no memory, so that it is tried in any case
exactly : (old new : Realm) (e : Event) (check : Checked) (told : Reply) (result : Result (Unit {0}) Refusal) (said : Reply) → said ≡ replied (λ done. told) result → Answers check (tt {0}) result → new ≡ after old e result → (said ≡ refused_or check told) × (new ≡ (if is_ok check && true then with_event old e else old))
exactly old new e (Ok done) told result said says is leaves = (says ∙ ap (replied (λ d. told)) is, leaves ∙ ap (after old e) is)
exactly old new e (Err r) told result said says is leaves = (says ∙ ap (replied (λ d. told)) is, leaves ∙ ap (after old e) is)

pub join_refused : (old new : Realm) (actor scope : ℕ) (r : Refusal) → Answers (check_of old.limits old.history (event.Join actor scope)) (tt {0}) (Err r) → new ≡ after {A = Unit {0}} old (event.Join actor scope) (Err r) → PerformsOrStops old (Do (event.Join actor scope)) new (reply.Refused r)
unfolding reply_to realm_after
join_refused old new actor scope r is leaves =
    let e = event.Join actor scope in
    let done = exactly old new e (check_of old.limits old.history e) (event_reply_of old.history e) (Err r) (reply.Refused r) refl is leaves in
    inr (record { reply = done.0; realm = done.1 })

value_read : (check : Checked) (value : Option Outcome) (x : Outcome) → AnswersValue check value (Ok x) → value ≡ Some x
value_read (Ok done) value x is = is
value_read (Err r) value x is = absurd cc

-- the join is recorded, and what it gave was read
pub joined : (old new : Realm) (actor scope : ℕ) (x : Outcome) → Answers (check_of old.limits old.history (event.Join actor scope)) (tt {0}) (Ok tt) → new ≡ after {A = Unit {0}} old (event.Join actor scope) (Ok tt) → AnswersValue (outcome_check new.history scope) (outcome new.history scope) (Ok x) → PerformsOrStops old (Do (event.Join actor scope)) new (reply.Outcome x)
unfolding reply_to realm_after
joined old new actor scope x is leaves read =
    let e = event.Join actor scope in
    let there : outcome (with_event old e).history scope ≡ Some x = ap (λ (r : Realm). outcome r.history scope) (sym leaves) ∙ value_read (outcome_check new.history scope) (outcome new.history scope) x read in
    let told : reply.Outcome x ≡ event_reply_of old.history e = rw there refl in
    let done = exactly old new e (check_of old.limits old.history e) (event_reply_of old.history e) (Ok tt) (reply.Outcome x) told is leaves in
    inr (record { reply = done.0; realm = done.1 })

-- the join is recorded, and there was no memory to read what it gave
pub join_stands : (old new : Realm) (actor scope : ℕ) → Answers (check_of old.limits old.history (event.Join actor scope)) (tt {0}) (Ok tt) → new ≡ after {A = Unit {0}} old (event.Join actor scope) (Ok tt) → PerformsOrStops old (Do (event.Join actor scope)) new (reply.Refused Memory)
unfolding realm_after
join_stands old new actor scope is leaves =
    let e = event.Join actor scope in
    let done = exactly old new e (check_of old.limits old.history e) (event_reply_of old.history e) (Ok tt) (event_reply_of old.history e) refl is leaves in
    inl (record { memory = refl; stopped = done.1 })

retired_by : (old new : Realm) (check : Checked) (value : Origin) (result : Result Origin Refusal) (said : Reply) → said ≡ replied told_base result → AnswersOrMemory check value result → new ≡ after_retiring old result → ((said ≡ reply.Refused Memory) × (new ≡ old)) ⊎ ((said ≡ replied told_base (answering check value)) × (new ≡ after_retiring old check))
retired_by old new (Ok done) value result said says (inl is) leaves = inr (says ∙ ap (replied told_base) is, leaves ∙ ap (after_retiring old) is)
retired_by old new (Ok done) value result said says (inr is) leaves = inl (says ∙ ap (replied told_base) is, leaves ∙ ap (after_retiring old) is)
retired_by old new (Err r) value result said says is leaves = inr (says ∙ ap (replied told_base) is, leaves ∙ ap (after_retiring old) is)

pub retires : (old new : Realm) (actor : ℕ) (result : Result Origin Refusal) (said : Reply) → said ≡ replied told_base result → AnswersOrMemory (retire_check old.history actor) (base_of old.history) result → new ≡ after_retiring old result → PerformsOrStops old (Retire actor) new said
unfolding reply_to realm_after
retires old new actor result said says is leaves =
    elim (retired_by old new (retire_check old.history actor) (base_of old.history) result said says is leaves) [
      | inl none ↦ inl (record { memory = none.0; stopped = none.1 })
      | inr done ↦ inr (record { reply = done.0; realm = done.1 })
    ]
