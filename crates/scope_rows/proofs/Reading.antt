-- What is read of the rows is what the history says.
use Rattle.std.proofs.Common.{ℕ, ◌<◌, ◌==◌, ◌∙◌, ◌≡◌, ◌≢◌, ◌≤◌, Bool, Bor, List, MatchOption, None, Option, Some, ap, arith, cond, false, nat_lt, refl, slice_get, subst, sym, true}
use Rattle.scope_rows.specs.{AreRowsOf, Forking, History, IsScopeRow, IsTaskRow, Legal, Limits, Opening, RowTable, ScopeRow, TaskRow, forking, inner_of, innermost, innermost_of, opening, option_and_then, option_map, place_of}
use Rattle.scope_rows.specs.{row_of, scope_row, task_row}
use Rattle.scope_rows.proofs.Words.{eq-eqb, eqb-true, ltb-true}
use Rattle.scope_rows.proofs.{Places.number_at, Places.scope_at, Places.scope_row_is, Places.task_at, Places.task_row_is, Unforked.unforked_innermost}

-- a row stands after the numbers before
row_after : {R : Type 0} (before : ℕ) (rows : List R) (n : ℕ) (r : R) → row_of before rows n ≡ Some r → (before < n) × (slice_get rows (place_of before n) ≡ Some r)
row_after before rows n r is = by (nat_lt before n) refl is
  where
    by : (b : Bool) → nat_lt before n ≡ b → cond b (slice_get rows (place_of before n)) None ≡ Some r → (before < n) × (slice_get rows (place_of before n) ≡ Some r)
    by true test found = (ltb-true before n test, found)
    by false test found = absurd cc

-- a scope's row that is read is right
pub scope_row_says : (h : History) (t : RowTable) (s : ℕ) (r : ScopeRow) → AreRowsOf h t → scope_row t s ≡ Some r → IsScopeRow h s r
scope_row_says h t s r are is =
    let it = row_after t.scopes_before t.scopes s r is in
    subst (λ n. IsScopeRow h n r) (number_at t.scopes_before s it.0) (are.scopes (place_of t.scopes_before s) r it.1)

-- a task's row that is read is right
pub task_row_says : (h : History) (t : RowTable) (k : ℕ) (r : TaskRow) → AreRowsOf h t → task_row t k ≡ Some r → IsTaskRow h k r
task_row_says h t k r are is =
    let it = row_after t.tasks_before t.tasks k r is in
    subst (λ n. IsTaskRow h n r) (number_at t.tasks_before k it.0) (are.tasks (place_of t.tasks_before k) r it.1)

unopened_by : (h : History) (t : RowTable) (s : ℕ) (o : Option Opening) → AreRowsOf h t → scope_row t s ≡ None → opening h s ≡ o → o ≡ None
unopened_by h t s None are none is = refl
unopened_by h t s (Some o) are none is = absurd (cc (none, scope_row_is h t s (scope_at h t s are (record { opened = o; is = is }))))

-- a scope without a row was never opened
pub scope_row_none : (h : History) (t : RowTable) (s : ℕ) → AreRowsOf h t → scope_row t s ≡ None → opening h s ≡ None
scope_row_none h t s are none = unopened_by h t s (opening h s) are none refl

unforked_by : (h : History) (t : RowTable) (k : ℕ) (o : Option Forking) → AreRowsOf h t → task_row t k ≡ None → forking h k ≡ o → o ≡ None
unforked_by h t k None are none is = refl
unforked_by h t k (Some f) are none is = absurd (cc (none, task_row_is h t k (task_at h t k are (record { forked = f; is = is }))))

-- a task without a row was never forked
pub task_row_none : (h : History) (t : RowTable) (k : ℕ) → AreRowsOf h t → task_row t k ≡ None → forking h k ≡ None
task_row_none h t k are none = unforked_by h t k (forking h k) are none refl

-- the answer for a scope is right
pub scope_answer : (h : History) (t : RowTable) (s : ℕ) (o : Option (Bor ScopeRow)) → option_map (λ x. x.now) o ≡ scope_row t s → AreRowsOf h t → MatchOption o (opening h s ≡ None) (λ row. IsScopeRow h s row.now)
scope_answer h t s None is are = scope_row_none h t s are (sym is)
scope_answer h t s (Some x) is are = scope_row_says h t s x.now are (sym is)

-- the answer for a task is right
pub task_answer : (h : History) (t : RowTable) (k : ℕ) (o : Option (Bor TaskRow)) → option_map (λ x. x.now) o ≡ task_row t k → AreRowsOf h t → MatchOption o (forking h k ≡ None) (λ row. IsTaskRow h k row.now)
task_answer h t k None is are = task_row_none h t k are (sym is)
task_answer h t k (Some x) is are = task_row_says h t k x.now are (sym is)

-- a number at or before those given before has no row
pub row_before : {R : Type 0} (before : ℕ) (rows : List R) (n : ℕ) → n ≤ before → row_of before rows n ≡ None
row_before before rows n within = by (nat_lt before n) refl
  where
    by : (b : Bool) → nat_lt before n ≡ b → cond b (slice_get rows (place_of before n)) None ≡ None
    by true test = absurd (omega (arith, ltb-true before n test))
    by false test = refl

-- what is read of a task, or of what is none
pub task_innermost : (L : Limits) (h : History) (t : RowTable) (a : ℕ) (o : Option TaskRow) → Legal L h → AreRowsOf h t → a ≢ 0 → task_row t a ≡ o → option_and_then (λ (r : TaskRow). inner_of r.innermost) o ≡ innermost h a
task_innermost L h t a (Some r) legal are other is = sym (task_row_says h t a r are is).innermost
task_innermost L h t a None legal are other is =
    sym (unforked_innermost L h a legal other (λ it. absurd (cc (task_row_none h t a are is, it.is))))

-- the innermost scope that is read is the actor's
pub innermost_says : (L : Limits) (h : History) (t : RowTable) (a : ℕ) → Legal L h → AreRowsOf h t → innermost_of t a ≡ innermost h a
innermost_says L h t a legal are = by (a == 0) refl
  where
    by : (b : Bool) → (a == 0) ≡ b → cond b t.main_innermost (option_and_then (λ (r : TaskRow). inner_of r.innermost) (task_row t a)) ≡ innermost h a
    by true main = sym are.main ∙ ap (innermost h) (sym (eqb-true a 0 main))
    by false other = task_innermost L h t a (task_row t a) legal are (λ same. absurd (cc (other, eq-eqb a 0 same))) refl
