-- From what a command of a kept realm answers to its reply.
use Rattle.std.proofs.Common.{[], ℕ, ℤ, ◌&&◌, ◌∙◌, ◌≡◌, ◌⊎◌, Bool, Err, List, Ok, Option, Result, Some, ap, if◌then◌else◌, inl, inr, is_ok, length, pos, refl, subst, sym, true}
use Rattle.balkreyn_c.specs.{Answers, AnswersBare, AnswersOrMemory, AnswersValue, Ask, BadWord, BareOutcome, Checked, Command, DidPerform, Do, DoesLine, Event, Lines, Memory, Origin, Outcome, Performed, PerformsOrStops, Query}
use Rattle.balkreyn_c.specs.{Realm, Refusal, Reply, Retire, Retires, Silent, Stopped, Tells, TimedRealm, Words.Performs, WritesReply, after, answer_to, check_of, followed, line_reply, line_said, not_done, outcome, outcome_check}
use Rattle.balkreyn_c.specs.{passed_reply, realm_after, realm_after_line, refused_or, reply_line, reply_to, text_in, times_left, untold, with_event, with_realm}
use Rattle.balkreyn_c.proofs.Lemmas.{joined, retires}
use Rattle.balkreyn_c.proofs.Acted.{left_realm, left_times}
use Rattle.scope_rules.specs.declared.types.events.Event.TheVariants as event
use Rattle.scope_rules.specs.declared.types.refusals.Refusal.TheVariants as why
use Rattle.scope_rules.specs.declared.types.refusals.Refusal.TheVariants.{BadWord as Bad}
use Rattle.script_words.specs.declared.commands.Line.TheVariants.{Command as command}
use Rattle.script_words.specs.declared.reply.Reply.TheVariants as reply
use Rattle.balkreyn_c.specs.declared.line.Performed.TheVariants as performed
use Rattle.balkreyn_c.specs.Numbers.{refused as refused_number}

-- a refusal is want of memory, or it is a reply
abbrev OtherThanMemory : Refusal → Type 0
OtherThanMemory r = (r ≡ Memory → ⊥) × (not_done r ≡ performed.Answered (reply.Refused r))

either : (r : Refusal) → (r ≡ Memory) ⊎ OtherThanMemory r
either Memory = inl refl
either why.NoScope = inr ((λ same. cc), refl)
either why.NotOwner = inr ((λ same. cc), refl)
either why.Closed = inr ((λ same. cc), refl)
either why.AlreadyJoined = inr ((λ same. cc), refl)
either why.NotJoined = inr ((λ same. cc), refl)
either why.Structure = inr ((λ same. cc), refl)
either why.NoTask = inr ((λ same. cc), refl)
either why.WrongStage = inr ((λ same. cc), refl)
either why.ClockBack = inr ((λ same. cc), refl)
either why.TooMany = inr ((λ same. cc), refl)
either why.NotReady = inr ((λ same. cc), refl)
either why.NotBound = inr ((λ same. cc), refl)
either why.Unavailable = inr ((λ same. cc), refl)
either why.NotSuccess = inr ((λ same. cc), refl)
either why.NotFailed = inr ((λ same. cc), refl)
either why.Rejected = inr ((λ same. cc), refl)
either why.BadWord = inr ((λ same. cc), refl)
either why.TooDeep = inr ((λ same. cc), refl)
either why.Retired = inr ((λ same. cc), refl)

refused_by : (check : Checked) (wants : Bool) (r : Refusal) → (r ≡ Memory → ⊥) → (check ≡ Err r) ⊎ ((check ≡ Ok tt) × (r ≡ Memory) × (wants ≡ true)) → check ≡ Err r
refused_by check wants r other (inl by) = by
refused_by check wants r other (inr memory) = absurd (other memory.1)

-- and so has one that was refused
pub refused : (old new : Realm) (e : Event) (r : Refusal) → (r ≡ Memory → ⊥) → Tells old e (Err r) new → Performs old (Do e) new (reply.Refused r)
unfolding reply_to realm_after
refused old new e r other is =
    let by = refused_by _ _ r other is.0 in
    record { reply = rw by refl; realm = is.1 ∙ rw by refl }

pub stopped : (old new : Realm) (e : Event) → Tells old e (Err Memory) new → Stopped old (Do e) new
stopped old new e is = record { wants = (is.0, refl); kept = is.1 }

refused_either : (old new : Realm) (e : Event) (r : Refusal) → (r ≡ Memory) ⊎ OtherThanMemory r → Tells old e (Err r) new → DidPerform old (Do e) (not_done r) new
refused_either old new e r (inl same) is = let P : Refusal → Type 0 = λ r. Tells old e (Err r) new → DidPerform old (Do e) (not_done r) new in subst P (sym same) (stopped old new e) is
refused_either old new e r (inr other) is = rw other.1 (refused old new e r other.0 is)

pub refused_as : (old new : Realm) (e : Event) (r : Refusal) (said : Performed) → said ≡ not_done r → Tells old e (Err r) new → DidPerform old (Do e) said new
refused_as old new e r said same is = rw same (refused_either old new e r (either r) is)

-- ---- joins

answered : (check : Checked) (o : Option Outcome) (bare : BareOutcome) → AnswersBare check o (Ok bare) → check ≡ Ok tt
answered (Ok done) o bare is = refl
answered (Err r) o bare is = absurd cc

-- a reply as a check
passes : Result BareOutcome Refusal → Checked
passes (Ok bare) = Ok tt
passes (Err r) = Err r

refused_so : (check : Checked) (o : Option Outcome) (r : Refusal) → AnswersBare check o (Err r) → check ≡ Err r
unfolding passes
refused_so (Ok done) o r is = absurd is
refused_so (Err s) o r is = sym (ap passes is)

-- a reply that is not want of memory is no stop
told_of_either : (old new : Realm) (c : Command) (said : Reply) → (said ≡ reply.Refused Memory → ⊥) → PerformsOrStops old c new said → Performs old c new said
told_of_either old new c said other (inl stops) = absurd (other stops.memory)
told_of_either old new c said other (inr done) = done

-- the answer, and what is left, of a join of scope s
abbrev AnswersJoin : Realm → ℕ → ℕ → Result BareOutcome Refusal → Type 0
AnswersJoin old a s reply = AnswersBare (check_of old.limits old.history (event.Join a s)) (outcome (followed old.history (event.Join a s)) s) reply

abbrev Leaves : Realm → Realm → ℕ → ℕ → Type 0
Leaves old new a s = new ≡ after old (event.Join a s) (check_of old.limits old.history (event.Join a s))

passed : (old : Realm) (a s : ℕ) (bare : BareOutcome) → AnswersJoin old a s (Ok bare) → check_of old.limits old.history (event.Join a s) ≡ Ok tt
passed old a s bare is = answered (check_of old.limits old.history (event.Join a s)) (outcome (followed old.history (event.Join a s)) s) bare is

left_of : (old new : Realm) (e : Event) (check : Checked) → check ≡ Ok tt → new ≡ after old e check → new ≡ after {A = Unit {0}} old e (Ok tt)
left_of old new e check ok is = rw ok at is

answers_ok : (check : Checked) → check ≡ Ok tt → Answers check (tt {0}) (Ok tt)
answers_ok check ok = rw ok refl

pub join_told : (old new : Realm) (a s : ℕ) (bare : BareOutcome) (x : Outcome) → AnswersJoin old a s (Ok bare) → Leaves old new a s → AnswersValue (outcome_check new.history s) (outcome new.history s) (Ok x) → Performs old (Do (event.Join a s)) new (reply.Outcome x)
join_told old new a s bare x is left read =
    let check = check_of old.limits old.history (event.Join a s) in
    let ok = passed old a s bare is in
    told_of_either old new (Do (event.Join a s)) (reply.Outcome x) (λ same. cc) (joined old new a s x (answers_ok check ok) (left_of old new (event.Join a s) check ok left) read)

after_join : (old : Realm) (e : Event) (check : Checked) → after old e check ≡ (if is_ok check && true then with_event old e else old)
after_join old e (Ok done) = refl
after_join old e (Err r) = refl

pub join_untold : (old new : Realm) (a s : ℕ) (bare : BareOutcome) → AnswersJoin old a s (Ok bare) → Leaves old new a s → new ≡ realm_after old (Do (event.Join a s))
unfolding realm_after
join_untold old new a s bare is left = left ∙ after_join old (event.Join a s) (check_of old.limits old.history (event.Join a s))

refused_check : (check : Checked) (r : Refusal) (told : Reply) → check ≡ Err r → reply.Refused r ≡ refused_or check told
refused_check check r told by = rw by refl

pub join_refusal : (old new : Realm) (a s : ℕ) (r : Refusal) → AnswersJoin old a s (Err r) → Leaves old new a s → Performs old (Do (event.Join a s)) new (reply.Refused r)
unfolding reply_to realm_after
join_refusal old new a s r is left =
    let check = check_of old.limits old.history (event.Join a s) in
    let by = refused_so check (outcome (followed old.history (event.Join a s)) s) r is in
    record {
      reply = refused_check check r (passed_reply old.history (event.Join a s)) by;
      realm = left ∙ after_join old (event.Join a s) check;
    }

-- ---- retirements

retired_check : (check : Checked) (value base : Origin) → AnswersOrMemory check value (Ok base) → check ≡ Ok tt
retired_check (Ok done) value base is = refl
retired_check (Err r) value base is = absurd cc

pub retired : (old new : Realm) (actor : ℕ) (base : Origin) → Retires old actor (Ok base) new → Performs old (Retire actor) new (reply.Retired base.scopes base.tasks)
retired old new actor base is = told_of_either old new (Retire actor) (reply.Retired base.scopes base.tasks) (λ same. cc) (retires old new actor (Ok base) (reply.Retired base.scopes base.tasks) refl is.0 is.1)

pub retire_refused : (old new : Realm) (actor : ℕ) (r : Refusal) → (r ≡ Memory → ⊥) → Retires old actor (Err r) new → Performs old (Retire actor) new (reply.Refused r)
retire_refused old new actor r other is = told_of_either old new (Retire actor) (reply.Refused r) (λ same. other (let back : r ≡ Memory = cc in back)) (retires old new actor (Err r) (reply.Refused r) refl is.0 is.1)

pub retire_stopped : (old new : Realm) (actor : ℕ) → Retires old actor (Err Memory) new → Stopped old (Retire actor) new
retire_stopped old new actor is = record { wants = (is.0, refl); kept = is.1 }

retire_either : (old new : Realm) (actor : ℕ) (r : Refusal) → (r ≡ Memory) ⊎ OtherThanMemory r → Retires old actor (Err r) new → DidPerform old (Retire actor) (not_done r) new
retire_either old new actor r (inl same) is = let P : Refusal → Type 0 = λ r. Retires old actor (Err r) new → DidPerform old (Retire actor) (not_done r) new in subst P (sym same) (retire_stopped old new actor) is
retire_either old new actor r (inr other) is = rw other.1 (retire_refused old new actor r other.0 is)

pub retire_refused_as : (old new : Realm) (actor : ℕ) (r : Refusal) (said : Performed) → said ≡ not_done r → Retires old actor (Err r) new → DidPerform old (Retire actor) said new
retire_refused_as old new actor r said same is = rw same (retire_either old new actor r (either r) is)

-- ---- lines

pub asked : (old : Realm) (query : Query) (said : Reply) → said ≡ answer_to old.history query → Performs old (Ask query) old said
unfolding reply_to realm_after
asked old query said is = record { reply = is; realm = refl }

-- the line that was written is what scripts reply
pub replied : (old new : Realm) (c : Command) (said : Reply) (answer : ℤ) (was now : List ℕ) → Performs old c new said → WritesReply (reply_line said) answer was now → DoesLine old (command c) answer new was now
unfolding line_reply realm_after_line
replied old new c said answer was now done (inl wrote) =
    let line = ap reply_line done.reply in
    inl (record { number = wrote.number ∙ ap (λ (l : List ℕ). pos (length l)) line; written = wrote.written ∙ ap (λ (l : List ℕ). text_in l was) line; realm = done.realm })
replied old new c said answer was now done (inr silent) = inr (inl (record { number = silent.number_is; kept = silent.kept; realm = done.realm }))

pub bad_word : (old : Realm) (answer : ℤ) (was now : List ℕ) → WritesReply (reply_line (reply.Refused Bad)) answer was now → DoesLine old BadWord answer old was now
unfolding line_reply realm_after_line
bad_word old answer was now (inl wrote) = inl (record { number = wrote.number; written = wrote.written; realm = refl })
bad_word old answer was now (inr silent) = inr (inl (record { number = silent.number_is; kept = silent.kept; realm = refl }))

pub silent : (old : Realm) (answer : ℤ) (was now : List ℕ) → answer ≡ pos 0 → now ≡ text_in [] was → DoesLine old Silent answer old was now
unfolding line_reply realm_after_line
silent old answer was now number written = inl (record { number = number; written = written; realm = refl })

pub performed_untold : (old new : Realm) (c : Command) (was : List ℕ) → new ≡ realm_after old c → DoesLine old (command c) untold new was was
unfolding realm_after_line
performed_untold old new c was is = inr (inl (record { number = refl; kept = refl; realm = is }))

pub line_stopped : (old new : Realm) (c : Command) (answer : ℤ) (was : List ℕ) → Stopped old c new → answer ≡ refused_number Memory → DoesLine old (command c) answer new was was
line_stopped old new c answer was is number = inr (inr (record { wants = is.wants; number = number; kept = refl; realm = is.kept }))

pub took : (held new : Option TimedRealm) (old was left : TimedRealm) (realm : Realm) (line : List ℕ) (answer : ℤ) (before after : List ℕ) → held ≡ Some old → DoesLine old.realm (line_said line) answer realm before after → was ≡ with_realm old realm → left.realm ≡ was.realm → left.times.items ≡ times_left was.realm.history was.times.items → new ≡ Some left → Lines held line answer new before after
took held new old was left realm line answer before after there does same kept times holds =
    let P : Realm → Type 0 = λ r. DoesLine old.realm (line_said line) answer r before after in
    rw there (record { timed = left; holds = holds; does = subst P (sym (left_realm old was left realm same kept)) does; times = left_times old was left realm same kept times })
