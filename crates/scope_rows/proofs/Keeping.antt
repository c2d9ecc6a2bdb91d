-- How rows go on if no scope is opened and no task forked.
use Rattle.std.proofs.Common.{ℕ, ◌+◌, ◌∙◌, ◌≡◌, Bool, Option, Some, ap, arith, cond, count_by, false, refl, slice_get, sym}
use Rattle.scope_rows.specs.{AreRowsOf, Bind, Binding, Cancel, Event, History, IsTaskRow, Legal, Limits, Move, RowTable, TaskRow, Tick, Unbind, begins_closing, begins_for, counts, ends, finishes, followed, innermost, is_fork}
use Rattle.scope_rows.specs.{is_open, joins, rejects, starts}
use Rattle.scope_rows.proofs.Words.{count_push, innermost_same, tally_stays}
use Rattle.scope_rows.proofs.Frames.{counts_same, scope_index, task_kept}

-- a kind of event is counted no more often by an event of another kind
pub count_same : (kind : Event → Bool) (h : History) (e : Event) → kind e ≡ false → count_by kind (followed h e).events ≡ count_by kind h.events
count_same kind h e other =
    let none : cond {A = ℕ} (kind e) 1 0 ≡ 0 = ap (λ b. cond {A = ℕ} b 1 0) other in
    omega (arith, count_push kind h.events e, none)

-- an event that names no task, and forks none, leaves the counts of each scope
pub counts_kept : (L : Limits) (h : History) (e : Event) (s : ℕ) → Legal L h → is_fork e ≡ false → ((j : ℕ) → (rejects j e ≡ false) × (starts j e ≡ false) × (finishes j e ≡ false)) → counts (followed h e) s ≡ counts h s
counts_kept L h e s legal other none = counts_same h (followed h e) s (λ x. tally_stays L h e s x legal other none)

-- the rows of tasks go on as they are after an event that says nothing of tasks and innermost scopes
pub tasks_kept : (L : Limits) (h : History) (e : Event) (t : RowTable) → Legal L h → AreRowsOf h t → ((j : ℕ) → (rejects j e ≡ false) × (starts j e ≡ false) × (finishes j e ≡ false)) → ((a : ℕ) → innermost (followed h e) a ≡ innermost h a)
    → (i : ℕ) (r : TaskRow) → slice_get t.tasks i ≡ Some r → IsTaskRow (followed h e) (t.tasks_before + 1 + i) r
tasks_kept L h e t legal are none inner i r at =
    let un = none (t.tasks_before + 1 + i) in
    task_kept L h e (t.tasks_before + 1 + i) r legal (are.tasks i r at) un.0 un.1 un.2 (inner (t.tasks_before + 1 + i))

-- an event that neither says anything of a scope nor of a task
pub record IsQuiet (h : History) (e : Event) : Type 0 where
  pub opens_none : is_open e ≡ false
  pub forks_none : is_fork e ≡ false
  pub tasks : (j : ℕ) → (rejects j e ≡ false) × (starts j e ≡ false) × (finishes j e ≡ false)
  pub joins_none : (s : ℕ) → joins s e ≡ false
  pub begins_none : (s : ℕ) → begins_closing h s e ≡ false
  pub violates_none : (s : ℕ) → begins_for h s e ≡ false
  pub ends_none : (s : ℕ) → ends s e ≡ false

-- such an event leaves the rows
pub rows_quiet : (L : Limits) (h : History) (e : Event) (t : RowTable) → Legal L h → IsQuiet h e → AreRowsOf h t → AreRowsOf (followed h e) t
rows_quiet L h e t legal quiet are =
    let inner : (a : ℕ) → innermost (followed h e) a ≡ innermost h a = λ a. innermost_same h e a quiet.opens_none quiet.ends_none in
    record {
      scopes_before = are.scopes_before;
      tasks_before = are.tasks_before;
      main = inner 0 ∙ are.main;
      scope_count = are.scope_count ∙ sym (count_same is_open h e quiet.opens_none);
      task_count = are.task_count ∙ sym (count_same is_fork h e quiet.forks_none);
      scopes = λ i r at.
          let s = t.scopes_before + 1 + i in
          scope_index h e s r (are.scopes i r at) (quiet.joins_none s) (quiet.begins_none s) (quiet.ends_none s) (quiet.violates_none s) (counts_kept L h e s legal quiet.forks_none quiet.tasks);
      tasks = tasks_kept L h e t legal are quiet.tasks inner;
    }

-- a cancel leaves the rows
pub rows_cancelled : (L : Limits) (h : History) (t : RowTable) (s : ℕ) → Legal L h → AreRowsOf h t → AreRowsOf (followed h (Cancel s)) t
rows_cancelled L h t s legal are =
    rows_quiet L h (Cancel s) t legal (record { opens_none = refl; forks_none = refl; tasks = λ j. (refl, refl, refl); joins_none = λ n. refl; begins_none = λ n. refl; violates_none = λ n. refl; ends_none = λ n. refl }) are

-- a move of a deadline leaves them
pub rows_deadline_moved : (L : Limits) (h : History) (t : RowTable) (s : ℕ) (d : Option ℕ) → Legal L h → AreRowsOf h t → AreRowsOf (followed h (Move s d)) t
rows_deadline_moved L h t s d legal are =
    rows_quiet L h (Move s d) t legal (record { opens_none = refl; forks_none = refl; tasks = λ j. (refl, refl, refl); joins_none = λ n. refl; begins_none = λ n. refl; violates_none = λ n. refl; ends_none = λ n. refl }) are

-- a tick leaves them
pub rows_ticked : (L : Limits) (h : History) (t : RowTable) (now : ℕ) → Legal L h → AreRowsOf h t → AreRowsOf (followed h (Tick now)) t
rows_ticked L h t now legal are =
    rows_quiet L h (Tick now) t legal (record { opens_none = refl; forks_none = refl; tasks = λ j. (refl, refl, refl); joins_none = λ n. refl; begins_none = λ n. refl; violates_none = λ n. refl; ends_none = λ n. refl }) are

-- a bind leaves them
pub rows_bound : (L : Limits) (h : History) (t : RowTable) (a : ℕ) (pair : Binding) → Legal L h → AreRowsOf h t → AreRowsOf (followed h (Bind a pair)) t
rows_bound L h t a pair legal are =
    rows_quiet L h (Bind a pair) t legal (record { opens_none = refl; forks_none = refl; tasks = λ j. (refl, refl, refl); joins_none = λ n. refl; begins_none = λ n. refl; violates_none = λ n. refl; ends_none = λ n. refl }) are

-- an unbind leaves them
pub rows_unbound : (L : Limits) (h : History) (t : RowTable) (a : ℕ) → Legal L h → AreRowsOf h t → AreRowsOf (followed h (Unbind a)) t
rows_unbound L h t a legal are =
    rows_quiet L h (Unbind a) t legal (record { opens_none = refl; forks_none = refl; tasks = λ j. (refl, refl, refl); joins_none = λ n. refl; begins_none = λ n. refl; violates_none = λ n. refl; ends_none = λ n. refl }) are
