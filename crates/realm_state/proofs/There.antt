-- What is kept has a row for each scope that was opened, each task that was forked and each actor that acts.
use Rattle.std.proofs.Common.{ℕ, ◌<◌, ◌∙◌, ◌≡◌, IsSome, None, Option, Some, ap, arith, is_some, length, refl, slice_get, subst, sym, true}
use Rattle.realm_state.specs.{AreCancelsOf, AreDeadlinesOf, AreEnvsOf, AreForksOf, AreRowsOf, CancelTable, DeadlineTable, EnvTable, Event, Fork, ForkTable, HasDeadline, HasEnv, HasForks, HasJoined, HasRow, History, IsScopeRow}
use Rattle.realm_state.specs.{IsTaskRow, Label, Legal, Limits, Opening, Passes, RowTable, ScopeRow, TaskRow, actor_check, forking, forking_of, joined, known_task, opening, option_and_then, outcome_check, scope_check, scope_row}
use Rattle.realm_state.specs.{surrounding, task_check}
use Rattle.realm_state.proofs.Words.{IsOpened, actor_passed, checks_at, forking_event, forking_within, has_env_of_actor, has_row, if_refused, joined_is_some, not_not, not_refused, opened_has_deadline, opened_has_forks, scope_at}
use Rattle.realm_state.proofs.Words.{scope_passed, scope_row_is, surrounding_opened}

-- a scope that passes was opened
pub opened_there : (h : History) (s : ℕ) → Passes (scope_check h s) → IsSome (opening h s)
opened_there h s passed = subst IsSome (sym (scope_passed h s passed).is) refl

pub scope_there : (h : History) (s : ℕ) → Passes (scope_check h s) → opening h s ≡ None → ⊥
scope_there h s passed none = absurd (cc ((scope_passed h s passed).is, none))

-- it has its row among the cancels
pub row_passed : (h : History) (t : CancelTable) (s : ℕ) → AreCancelsOf h t → Passes (scope_check h s) → HasRow t s
row_passed h t s are passed = has_row h t s are (scope_passed h s passed)

pub row_there : (h : History) (t : CancelTable) (s : ℕ) (r : ScopeRow) → AreCancelsOf h t → IsScopeRow h s r → HasRow t s
row_there h t s r are row = has_row h t s are (record { opened = r.opening; is = row.opening })

pub around_there : (L : Limits) (h : History) (t : CancelTable) (a s : ℕ) → Legal L h → AreCancelsOf h t → surrounding h a ≡ Some s → HasRow t s
around_there L h t a s legal are is = has_row h t s are (surrounding_opened L h a s legal is)

-- and its own deadline
pub deadline_there : (h : History) (t : DeadlineTable) (s : ℕ) → AreDeadlinesOf h t → Passes (scope_check h s) → HasDeadline t s
deadline_there h t s are passed = opened_has_deadline h t s are (scope_passed h s passed)

-- and a list of its tasks
pub forks_there : (h : History) (t : ForkTable) (s : ℕ) → AreForksOf h t → IsSome (opening h s) → HasForks t s
forks_there h t s are opened = opened_has_forks h t s are (opened_by h s (opening h s) refl opened)
  where
    opened_by : (h : History) (s : ℕ) (o : Option Opening) → opening h s ≡ o → IsSome o → IsOpened h s
    opened_by h s None is some = absurd cc
    opened_by h s (Some o) is some = record { opened = o; is = is }

-- a joined scope has a row that says so
pub joined_there : (h : History) (t : RowTable) (s : ℕ) → AreRowsOf h t → Passes (outcome_check h s) → HasJoined t s
unfolding outcome_check
joined_there h t s are passed =
    let opened = scope_passed h s (checks_at _ 0 _ passed refl) in
    let joined : joined h s ≡ true = not_not _ (not_refused _ _ (checks_at _ 1 _ passed refl)) in
    let it = scope_at h t s are opened in
    let at : option_and_then (λ (r : ScopeRow). r.joined) (scope_row t s) ≡ it.row.joined = ap (option_and_then (λ (r : ScopeRow). r.joined)) (scope_row_is h t s it) in
    subst IsSome (it.says.joined ∙ sym at) (sym (joined_is_some h s) ∙ joined)

pub joined_row : (h : History) (t : CancelTable) (s : ℕ) → AreCancelsOf h t → Passes (outcome_check h s) → HasRow t s
unfolding outcome_check
joined_row h t s are passed = row_passed h t s are (checks_at _ 0 _ passed refl)

pub joined_forks : (h : History) (t : ForkTable) (s : ℕ) → AreForksOf h t → Passes (outcome_check h s) → HasForks t s
unfolding outcome_check
joined_forks h t s are passed = opened_has_forks h t s are (scope_passed h s (checks_at _ 0 _ passed refl))

-- a task that passes was forked
pub task_there : (h : History) (k : ℕ) → Passes (task_check h k) → forking h k ≡ None → ⊥
unfolding known_task
task_there h k passed none =
    let some : is_some (forking h k) ≡ true = not_not _ (not_refused _ _ (if_refused _ _ _ passed)) in
    absurd (cc (some, ap is_some none))

-- the fork of a task that has a row stands at the row's place
pub fork_within : (h : History) (k : ℕ) (r : TaskRow) → IsTaskRow h k r → r.place < length h.events
fork_within h k r row = omega (arith, row.place, forking_within h k row.forked row.is)

pub fork_read : (h : History) (k : ℕ) (r : TaskRow) (e : Event) → IsTaskRow h k r → slice_get h.events r.place ≡ Some e → (actor : ℕ) × (label : Label) × (e ≡ Fork actor r.scope label)
fork_read h k r e row read =
    let f = row.forked in
    let there : slice_get h.events r.place ≡ Some (Fork f.actor f.scope f.label) = ap (slice_get h.events) (sym row.place) ∙ forking_event h k f row.is in
    let is : e ≡ Fork f.actor f.scope f.label = cc in
    (f.actor, f.label, is ∙ ap (λ s. Fork f.actor s f.label) row.scope)

pub fork_there : (h : History) (k : ℕ) (r : TaskRow) (e : Event) → IsTaskRow h k r → slice_get h.events r.place ≡ Some e → forking_of r.place e ≡ forking h k
fork_there h k r e row read =
    let f = row.forked in
    let there : slice_get h.events r.place ≡ Some (Fork f.actor f.scope f.label) = ap (slice_get h.events) (sym row.place) ∙ forking_event h k f row.is in
    let is : e ≡ Fork f.actor f.scope f.label = cc in
    ap (forking_of r.place) is ∙ (ap (λ n. Some (record f { place = n })) (sym row.place) ∙ sym row.is)

-- an actor that passes has an environment
pub env_there : (h : History) (t : EnvTable) (a : ℕ) → AreEnvsOf h t → Passes (actor_check h a) → HasEnv t a
env_there h t a are passed = has_env_of_actor h t a are (actor_passed h a passed)
