-- The checks, of which the table has rows: each passes, or says which failed. What is made of that is the refusal, or a
-- reason that explains it.
use Rattle.std.specs.Prelude.{[], ℕ, ◌&&◌, ◌==◌, ◌∷◌, Bool, Err, List, Ok, Result, false, if◌then◌else◌, is_some, nat_le, nat_lt, not}
use Rattle.scope_rules.specs.Words.{Limits, Refusal, option_map_or}
use Rattle.scope_rules.specs.{History.History, History.forking, History.opening, Load.over_load, Scopes.closing, Scopes.innermost, Scopes.joined, Tasks.is_running, Tasks.stage, declared.types.checks.Failed.Failed}
use Rattle.scope_rules.specs.declared.types.refusals.Refusal.TheVariants as refusal
use Rattle.scope_rules.specs.declared.types.checks.Failed.TheVariants as failed

-- a check passes, or gives what is made of it where it fails
abbrev pub Tried : Type 0 → Type 0
Tried F = Result (Unit {0}) F

-- a check passes, or gives its refusal
abbrev pub Checked : Type 0
Checked = Tried Refusal

-- the same, if something else is made of it
abbrev pub remade : {F G : Type 0} → (F → G) → Tried F → Tried G
remade g (Ok done) = Ok done
remade g (Err x) = Err (g x)

-- the refusal for a check that failed
abbrev pub refusal_of : Failed → Refusal
refusal_of (failed.ScopeRetired scope) = refusal.Retired
refusal_of (failed.ScopeUnknown scope) = refusal.NoScope
refusal_of (failed.TaskRetired task) = refusal.Retired
refusal_of (failed.TaskUnknown task) = refusal.NoTask
refusal_of (failed.NotRunning task) = refusal.WrongStage
refusal_of (failed.NotWaiting task) = refusal.WrongStage
refusal_of (failed.NotOwner actor scope) = refusal.NotOwner
refusal_of (failed.NotTaskOwner actor task) = refusal.NotOwner
refusal_of (failed.NotMain actor) = refusal.NotOwner
refusal_of (failed.Closing scope) = refusal.Closed
refusal_of (failed.Closed scope) = refusal.Closed
refusal_of (failed.NotClosing scope) = refusal.WrongStage
refusal_of (failed.ClosingAround actor) = refusal.Closed
refusal_of (failed.Joined scope) = refusal.AlreadyJoined
refusal_of (failed.NotJoined task) = refusal.NotJoined
refusal_of (failed.Pending scope) = refusal.NotReady
refusal_of (failed.Unclosed actor) = refusal.Structure
refusal_of (failed.NotInnermost actor scope) = refusal.Structure
refusal_of (failed.BoundOtherwise actor scope) = refusal.Structure
refusal_of (failed.NoBinding actor) = refusal.NotBound
refusal_of (failed.HeldBinding actor) = refusal.Structure
refusal_of (failed.ClockBack now) = refusal.ClockBack
refusal_of (failed.TooDeep actor) = refusal.TooDeep
refusal_of failed.Scopes = refusal.TooMany
refusal_of failed.Tasks = refusal.TooMany
refusal_of (failed.Load units) = refusal.TooMany

-- refused if the test holds
abbrev pub refuse_if : {F : Type 0} → Bool → F → Tried F
refuse_if b r = if b then Err r else Ok tt

-- the first check, then the second
unfoldable pub then_check : {F : Type 0} → Tried F → Tried F → Tried F
then_check (Ok done) next = next
then_check (Err r) next = Err r

-- the first check that fails
unfoldable pub checks : {F : Type 0} → List (Tried F) → Tried F
checks [] = Ok tt
checks (c ∷ cs) = then_check c (checks cs)

-- the scope has a number that was given since the base
unfoldable pub known_scope : {F : Type 0} → (Failed → F) → History → ℕ → Tried F
known_scope made h s = if nat_lt 0 s && nat_le s h.base.scopes then Err (made (failed.ScopeRetired s)) else refuse_if (not (is_some (opening h s))) (made (failed.ScopeUnknown s))

abbrev pub scope_check : History → ℕ → Checked
scope_check h s = known_scope refusal_of h s

-- the task has a number that was given since the base
unfoldable pub known_task : {F : Type 0} → (Failed → F) → History → ℕ → Tried F
known_task made h k = if nat_lt 0 k && nat_le k h.base.tasks then Err (made (failed.TaskRetired k)) else refuse_if (not (is_some (forking h k))) (made (failed.TaskUnknown k))

abbrev pub task_check : History → ℕ → Checked
task_check h k = known_task refusal_of h k

-- the actor is main, or a task that runs
unfoldable pub known_actor : {F : Type 0} → (Failed → F) → History → ℕ → Tried F
known_actor made h a = if a == 0 then Ok tt else checks (known_task made h a ∷ refuse_if (not (is_running (stage h a))) (made (failed.NotRunning a)) ∷ [])

abbrev pub actor_check : History → ℕ → Checked
actor_check h a = known_actor refusal_of h a

-- the actor opened the scope
unfoldable pub owns : History → ℕ → ℕ → Bool
owns h a s = option_map_or (λ o. o.actor == a) (opening h s) false

abbrev pub owned : {F : Type 0} → (Failed → F) → History → ℕ → ℕ → Tried F
owned made h a s = refuse_if (not (owns h a s)) (made (failed.NotOwner a s))

-- refused if the actor did not open the scope
abbrev pub owner_check : History → ℕ → ℕ → Checked
owner_check h a s = owned refusal_of h a s

-- the scope is not closing or closed
abbrev pub not_closing : {F : Type 0} → (Failed → F) → History → ℕ → Tried F
not_closing made h s = refuse_if (closing h s) (made (failed.Closing s))

-- refused if the scope is closing or closed
abbrev pub refuse_closing : History → ℕ → Checked
refuse_closing h s = not_closing refusal_of h s

-- the scope is not joined
abbrev pub not_joined : {F : Type 0} → (Failed → F) → History → ℕ → Tried F
not_joined made h s = refuse_if (joined h s) (made (failed.Joined s))

-- refused if the scope is joined
abbrev pub refuse_joined : History → ℕ → Checked
refuse_joined h s = not_joined refusal_of h s

-- there is capacity for so much load more
abbrev pub load_fits : {F : Type 0} → (Failed → F) → Limits → History → ℕ → Tried F
load_fits made L h units = refuse_if (over_load L h units) (made (failed.Load units))

-- refused if so much load more would pass the limit
abbrev pub refuse_full : Limits → History → ℕ → Checked
refuse_full L h units = load_fits refusal_of L h units

-- the actor's innermost scope is closing
unfoldable pub in_closing : History → ℕ → Bool
in_closing h a = option_map_or (closing h) (innermost h a) false

-- the scope is the actor's innermost one
unfoldable pub is_innermost : History → ℕ → ℕ → Bool
is_innermost h a s = option_map_or (λ t. t == s) (innermost h a) false
