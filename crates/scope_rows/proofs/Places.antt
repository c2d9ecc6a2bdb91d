-- Where the row of a scope or a task stands.
use Rattle.std.proofs.Common.{[], ℕ, ◌++◌, ◌+◌, ◌<◌, ◌∙◌, ◌∷◌, ◌≡◌, ◌≢◌, ◌≤◌, List, None, Option, Some, ap, arith, cond, inl, inr, length, slice_get, slice_index_or, subst, sym}
use Rattle.scope_rows.specs.{AreRowsOf, Forking, HasScope, HasTask, History, IsNumbered, IsScopeRow, IsTaskRow, RowTable, ScopeRow, TaskRow, altered, forking, opened_count, option_map_or, place_of, row_of, scope_of, scope_row}
use Rattle.scope_rows.specs.{task_row}
use Rattle.scope_rows.proofs.Words.{IsForked, IsOpened, forked_after, lt-ltb, opened_after, slice_get-get_or, slice_get_within}
use Rattle.scope_rows.proofs.Altering.{altered_split, pushed_split, there_is}

-- the place of a number's row is within the rows
pub place_within : (before len n : ℕ) → before < n → n ≤ before + len → place_of before n < len
place_within before len n more within = omega arith

-- the number of the row at a number's place
pub number_at : (before n : ℕ) → before < n → (before + 1) + place_of before n ≡ n
number_at before n more = omega arith

-- other numbers have other places
pub number_apart : (before i n : ℕ) → before < n → i ≢ place_of before n → (before + 1) + i ≢ n
number_apart before i n more apart same = apart (omega arith)

-- the row of a number after those before
pub row_is : {R : Type 0} (before : ℕ) (rows : List R) (n : ℕ) → before < n → row_of before rows n ≡ slice_get rows (place_of before n)
row_is before rows n more = ap (λ b. cond b (slice_get rows (place_of before n)) None) (lt-ltb before n more)

-- the row of a number, which was read
pub number_read : {R : Type 0} (before : ℕ) (rows : List R) (n : ℕ) (row : R) → IsNumbered before rows n → row ≡ slice_index_or rows (place_of before n) row → row_of before rows n ≡ Some row
number_read before rows n row has read = row_is before rows n has.0 ∙ (slice_get-get_or rows (place_of before n) row (place_within before (length rows) n has.0 has.1) ∙ ap Some (sym read))

-- the row of a scope, which says what the history says
pub record ScopeRowAt (h : History) (t : RowTable) (s : ℕ) : Type 0 where
  pub row : ScopeRow
  pub at : slice_get t.scopes (place_of t.scopes_before s) ≡ Some row
  pub says : IsScopeRow h s row
  pub has : HasScope t s

-- the row of a task, which says what the history says
pub record TaskRowAt (h : History) (t : RowTable) (k : ℕ) : Type 0 where
  pub row : TaskRow
  pub at : slice_get t.tasks (place_of t.tasks_before k) ≡ Some row
  pub says : IsTaskRow h k row
  pub has : HasTask t k

-- each entry is right of its number
abbrev pub AreRight : {R : Type 0} → (ℕ → R → Type 0) → ℕ → List R → Type 0
AreRight {R} says before rows = (i : ℕ) (r : R) → slice_get rows i ≡ Some r → says (before + 1 + i) r

-- if each row is right, so is the row of a number
row_there : {R : Type 0} (says : ℕ → R → Type 0) (before : ℕ) (rows : List R) (n : ℕ) → IsNumbered before rows n → AreRight says before rows → (r : R) × (slice_get rows (place_of before n) ≡ Some r) × says n r
row_there says before rows n has right =
    let it = there_is rows (place_of before n) (place_within before (length rows) n has.0 has.1) in
    (it.0, it.1, subst (λ m. says m it.0) (number_at before n has.0) (right (place_of before n) it.0 it.1))

-- and so is what is read there, whatever is read if there is none
pub entry_there : {R : Type 0} (says : ℕ → R → Type 0) (before : ℕ) (rows : List R) (n : ℕ) (other : R) → IsNumbered before rows n → AreRight says before rows → says n (slice_index_or rows (place_of before n) other)
entry_there says before rows n other has right =
    let at = slice_get-get_or rows (place_of before n) other (place_within before (length rows) n has.0 has.1) in
    subst (λ m. says m (slice_index_or rows (place_of before n) other)) (number_at before n has.0) (right (place_of before n) (slice_index_or rows (place_of before n) other) at)

-- an entry is put at the end, and the others stay right
pub right_pushed : {R : Type 0} (says next : ℕ → R → Type 0) (before : ℕ) (rows : List R) (x : R) (n : ℕ) → n ≡ before + length rows + 1 → ((m : ℕ) (r : R) → m < n → says m r → next m r) → next n x → AreRight says before rows → AreRight next before (rows ++ x ∷ [])
right_pushed says next before rows x n number others new right i r at =
    elim (pushed_split rows x i r at) [
      | inl old ↦ others ((before + 1) + i) r (let within = slice_get_within rows i r old in omega (arith, within, number)) (right i r old)
      | inr last ↦ let same : n ≡ (before + 1) + i = omega (arith, number, last.0) in subst (λ m. next m r) same (subst (next n) last.1 new)
    ]

-- the entry of a number is changed, and the others stay right
pub right_altered : {R : Type 0} (says next : ℕ → R → Type 0) (f : R → R) (before : ℕ) (rows : List R) (n : ℕ) → before < n → ((m : ℕ) (r : R) → m ≢ n → says m r → next m r) → ((r : R) → slice_get rows (place_of before n) ≡ Some r → says n r → next n (f r))
    → AreRight says before rows → AreRight next before (altered f rows (place_of before n))
right_altered says next f before rows n more others here right i y at =
    elim (altered_split f rows (place_of before n) i y at) [
      | inl it ↦
          let number : (before + 1) + i ≡ n = ap (λ j. (before + 1) + j) it.0 ∙ number_at before n more in
          let was = subst (λ m. says m it.1.was) number (right i it.1.was it.1.at) in
          let there = ap (slice_get rows) (sym it.0) ∙ it.1.at in
          subst (λ m. next m y) (sym number) (subst (next n) it.1.is (here it.1.was there was))
      | inr it ↦ others ((before + 1) + i) y (number_apart before i n more it.0) (right i y it.1)
    ]

-- a scope of the rows has a right row
pub scope_there : (h : History) (t : RowTable) (s : ℕ) → AreRowsOf h t → HasScope t s → ScopeRowAt h t s
scope_there h t s are has = let it = row_there (IsScopeRow h) t.scopes_before t.scopes s has are.scopes in record { row = it.0; at = it.1; says = it.2; has = has }

-- a task of the rows has a right row
pub task_there : (h : History) (t : RowTable) (k : ℕ) → AreRowsOf h t → HasTask t k → TaskRowAt h t k
task_there h t k are has = let it = row_there (IsTaskRow h) t.tasks_before t.tasks k has are.tasks in record { row = it.0; at = it.1; says = it.2; has = has }

-- if there is a row for each scope since the base, a scope that was opened has one
pub opened_numbered : {R : Type 0} (h : History) (before : ℕ) (rows : List R) (s : ℕ) → before ≡ h.base.scopes → length rows ≡ opened_count h → IsOpened h s → IsNumbered before rows s
opened_numbered h before rows s numbered count it =
    let number = opened_after h s it.opened it.is in
    (omega (arith, number.2, numbered), omega (arith, number.1, number.2, numbered, count))

-- a scope that was opened has a row
pub opened_has : (h : History) (t : RowTable) (s : ℕ) → AreRowsOf h t → IsOpened h s → HasScope t s
opened_has h t s are it = opened_numbered h t.scopes_before t.scopes s are.scopes_before are.scope_count it

-- a task that was forked has a row
pub forked_has : (h : History) (t : RowTable) (k : ℕ) → AreRowsOf h t → IsForked h k → HasTask t k
forked_has h t k are it =
    let number = forked_after h k it.forked it.is in
    (omega (arith, number.2, are.tasks_before), omega (arith, number.1, number.2, are.tasks_before, are.task_count))

-- a scope that was opened has a right row
pub scope_at : (h : History) (t : RowTable) (s : ℕ) → AreRowsOf h t → IsOpened h s → ScopeRowAt h t s
scope_at h t s are it = scope_there h t s are (opened_has h t s are it)

-- a task that was forked has a right row
pub task_at : (h : History) (t : RowTable) (k : ℕ) → AreRowsOf h t → IsForked h k → TaskRowAt h t k
task_at h t k are it = task_there h t k are (forked_has h t k are it)

-- the row that is asked for
pub scope_row_is : (h : History) (t : RowTable) (s : ℕ) (it : ScopeRowAt h t s) → scope_row t s ≡ Some it.row
scope_row_is h t s it = row_is t.scopes_before t.scopes s it.has.0 ∙ it.at

-- the row of a task that is asked for
pub task_row_is : (h : History) (t : RowTable) (k : ℕ) (it : TaskRowAt h t k) → task_row t k ≡ Some it.row
task_row_is h t k it = row_is t.tasks_before t.tasks k it.has.0 ∙ it.at

-- the scope of a task, by its row
pub scope_of_is : (h : History) (t : RowTable) (k : ℕ) (f : Forking) → AreRowsOf h t → forking h k ≡ Some f → scope_of t k ≡ f.scope
scope_of_is h t k f are is =
    let it = task_at h t k are (record { forked = f; is = is }) in
    let same : Some it.says.forked ≡ Some f = sym it.says.is ∙ is in
    let one : it.says.forked ≡ f = cc in
    ap (λ (o : Option TaskRow). option_map_or (λ (r : TaskRow). r.scope) o 0) (task_row_is h t k it) ∙ (sym it.says.scope ∙ ap (λ (x : Forking). x.scope) one)
