-- The rows of tasks, and main's innermost scope, after an event that moves the innermost scope of one actor.
use Rattle.std.proofs.Common.{ℕ, ◌+◌, ◌==◌, ◌∙◌, ◌≡◌, ◌≢◌, Bool, None, Option, Some, ap, arith, cond, false, inl, inr, length, refl, slice_get, sym, true, unwrap_or}
use Rattle.scope_rows.specs.{AreRowsOf, Event, HasActor, HasTask, History, IsTaskRow, Legal, Limits, RowTable, TaskRow, altered, finishes, followed, inner_of, innermost, main_with, place_of, rejects, starts, tasks_with}
use Rattle.scope_rows.specs.{with_inner}
use Rattle.scope_rows.proofs.Words.{eq-eqb, eqb-true, innermost_unclosed, ne_eqb, scope_given}
use Rattle.scope_rows.proofs.{Altering.altered_length, Frames.task_kept, Frames.task_moved, Places.AreRight, Places.right_altered}

-- an actor that is not main has a row
not_main : (t : RowTable) (a : ℕ) → (a == 0) ≡ false → HasActor t a → HasTask t a
not_main t a other (inl main) = absurd (cc (other, eq-eqb a 0 main))
not_main t a other (inr has) = has

-- an innermost scope has a number, which is not 0
inner_numbered : (h : History) (a : ℕ) (i : Option ℕ) → innermost h a ≡ i → inner_of (unwrap_or i 0) ≡ i
inner_numbered h a None is = refl
inner_numbered h a (Some n) is =
    let it = innermost_unclosed h a n is in
    let number = scope_given h n it.opened it.is in
    ap (λ b. cond b None (Some n)) (ne_eqb n 0 (λ zero. absurd (omega (arith, number.0, zero))))

module _ (L : Limits) (h : History) (e : Event) (t : RowTable) (a : ℕ) (i : Option ℕ) (legal : Legal L h) (are : AreRowsOf h t) (has : HasActor t a) (none : (j : ℕ) → (rejects j e ≡ false) × (starts j e ≡ false) × (finishes j e ≡ false)) (now : innermost (followed h e) a ≡ i) (others : (b : ℕ) → b ≢ a → innermost (followed h e) b ≡ innermost h b) where
  main_by : (b : Bool) → (a == 0) ≡ b → innermost (followed h e) 0 ≡ cond b i t.main_innermost
  main_by true main = ap (innermost (followed h e)) (sym (eqb-true a 0 main)) ∙ now
  main_by false other = others 0 (λ same. absurd (cc (other, eq-eqb a 0 (sym same)))) ∙ are.main

  -- main's innermost scope, in its own field
  pub main_moved : innermost (followed h e) 0 ≡ main_with t a i
  main_moved = main_by (a == 0) refl

  -- the row of another task
  kept : (k : ℕ) (r : TaskRow) → k ≢ a → IsTaskRow h k r → IsTaskRow (followed h e) k r
  kept k r apart it = let un = none k in task_kept L h e k r legal it un.0 un.1 un.2 (others k apart)

  tasks_by : (b : Bool) → (a == 0) ≡ b → AreRight (IsTaskRow (followed h e)) t.tasks_before (cond b t.tasks (altered (with_inner i) t.tasks (place_of t.tasks_before a)))
  tasks_by true main = λ j r at. let zero_it : a ≡ 0 = eqb-true a 0 main in kept ((t.tasks_before + 1) + j) r (λ same. absurd (omega (arith, same, zero_it))) (are.tasks j r at)
  tasks_by false other =
      let un = none a in
      right_altered (IsTaskRow h) (IsTaskRow (followed h e)) (with_inner i) t.tasks_before t.tasks a (not_main t a other has).0 kept
      (λ r at it. task_moved L h e a r (unwrap_or i 0) legal it un.0 un.1 un.2 (now ∙ sym (inner_numbered (followed h e) a i now))) are.tasks

  -- the rows of all tasks
  pub tasks_moved : (j : ℕ) (r : TaskRow) → slice_get (tasks_with t a i) j ≡ Some r → IsTaskRow (followed h e) (t.tasks_before + 1 + j) r
  tasks_moved = tasks_by (a == 0) refl

tasks_length_by : (b : Bool) (t : RowTable) (a : ℕ) (i : Option ℕ) → length (cond b t.tasks (altered (with_inner i) t.tasks (place_of t.tasks_before a))) ≡ length t.tasks
tasks_length_by true t a i = refl
tasks_length_by false t a i = altered_length (with_inner i) t.tasks (place_of t.tasks_before a)

-- there are as many rows
pub tasks_length : (t : RowTable) (a : ℕ) (i : Option ℕ) → length (tasks_with t a i) ≡ length t.tasks
tasks_length t a i = tasks_length_by (a == 0) t a i
