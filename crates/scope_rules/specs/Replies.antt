-- What commands and queries answer, and what they leave.
use Rattle.std.specs.Prelude.{[], ℕ, ◌+◌, ◌∷◌, ◌≡◌, ◌⊎◌, Bool, Err, Ok, Option, Result, Some, false, if◌then◌else◌, is_ok, length, nat_lt, not, ok_or, true}
use Rattle.scope_rules.specs.Words.{Already, Cancelling, Event, Fault, ForkReply, Limits, Memory, Name, NotBound, Recorded, Refusal, Thread, TooMany, Value}
use Rattle.scope_rules.specs.{Bindings.bindings, Bindings.bound_to, Bindings.stack, Cancels.is_cancelled, Checks.Checked, Checks.actor_check, Checks.checks, Checks.refuse_if, Checks.scope_check, History.History, History.followed}
use Rattle.scope_rules.specs.{History.moment, History.scopes, History.tasks, Origin.Origin, Scopes.joined, Table.answering, Table.checked_then, Table.fault_shown, Table.is_already, Table.reading_check, Table.value_shown}
use Rattle.scope_rules.specs.{Tasks.state, declared.types.answers.ForkReply.TheVariants.Never, declared.types.refusals.Refusal.TheVariants.NotJoined}

-- a realm: its limits, and its history
pub record Realm : Type 0 where
  pub limits : Limits
  pub history : History

-- a realm of these limits that begins with the base
abbrev pub starting : Limits → Origin → Realm
starting L b = record { limits = L; history = record { base = b; events = [] } }

-- a base whose pairs are more than the limit of load is refused
abbrev pub base_check : Limits → Origin → Checked
base_check L b = refuse_if (nat_lt L.load (length b.binds)) TooMany

-- a command that takes no memory answers the check's refusal, or else this value
abbrev pub Answers : {A : Type 0} → Checked → A → Result A Refusal → Type 0
Answers check value result = result ≡ answering check value

-- a command that takes memory may also be refused that, if every check passed
abbrev pub AnswersOrMemory : {A : Type 0} → Checked → A → Result A Refusal → Type 0
AnswersOrMemory (Ok done) value result = (result ≡ Ok value) ⊎ (result ≡ Err Memory)
AnswersOrMemory (Err r) value result = result ≡ Err r

-- the realm with one more event
abbrev pub with_event : Realm → Event → Realm
with_event realm e = record { limits = realm.limits; history = followed realm.history e }

-- an accepted command adds exactly its event, and a refused one nothing
abbrev pub after : {A : Type 0} → Realm → Event → Result A Refusal → Realm
after realm e result = if is_ok result then with_event realm e else realm

-- the command recorded its event
abbrev pub recorded : Result Cancelling Refusal → Bool
recorded (Ok Recorded) = true
recorded _ = false

-- the same, if an accepted command may find that all is so already
abbrev pub after_recording : Realm → Event → Result Cancelling Refusal → Realm
after_recording realm e result = if recorded result then with_event realm e else realm

-- the number of the next scope
abbrev pub next_scope : History → ℕ
next_scope h = scopes h + 1

-- the number of the next task, and whether it gets a thread in scope s
abbrev pub fork_reply : History → ℕ → ForkReply
fork_reply h s = if is_cancelled h s then Never (tasks h + 1) else Thread (tasks h + 1)

-- whether the event is recorded, or was so already
abbrev pub recording : History → Event → Cancelling
recording h e = if is_already h e then Already else Recorded

-- what `result` answers
unfoldable pub result_reply : History → ℕ → ℕ → Result Value Refusal
result_reply h a k = checked_then (reading_check h a k) (value_shown (state h k))

-- what `fault` answers
unfoldable pub fault_reply : History → ℕ → ℕ → Result Fault Refusal
fault_reply h a k = checked_then (reading_check h a k) (fault_shown (state h k))

-- what `binding` answers
unfoldable pub binding_reply : History → ℕ → Name → Result Value Refusal
binding_reply h a key = checked_then (actor_check h a) (ok_or (bound_to key (bindings h a)) NotBound)

-- what `outcome` is refused for, but memory
unfoldable pub outcome_check : History → ℕ → Checked
outcome_check h s = checks (scope_check h s ∷ refuse_if (not (joined h s)) NotJoined ∷ [])

-- the value that there is, or want of memory if the check passed
abbrev pub AnswersValue : {A : Type 0} → Checked → Option A → Result A Refusal → Type 0
AnswersValue (Ok done) value (Ok x) = value ≡ Some x
AnswersValue (Ok done) value (Err r) = r ≡ Memory
AnswersValue (Err r) value result = result ≡ Err r

-- what a retirement leaves of a history
unfoldable pub base_of : History → Origin
base_of h = record { moment = moment h; scopes = scopes h; tasks = tasks h; binds = stack h 0 }

-- an accepted retirement leaves the base alone, and a refused one everything
abbrev pub after_retiring : {A : Type 0} → Realm → Result A Refusal → Realm
after_retiring realm result = if is_ok result then starting realm.limits (base_of realm.history) else realm
