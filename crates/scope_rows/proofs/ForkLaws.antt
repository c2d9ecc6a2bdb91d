-- The rows after a fork.
use Rattle.std.proofs.Common.{[], ℕ, ◌++◌, ◌+◌, ◌==◌, ◌∙◌, ◌∷◌, ◌≡◌, Bool, None, Option, Some, ap, arith, cond, false, length, length-append, refl, sym, true}
use Rattle.scope_rows.specs.{Accepts, AreRowsOf, Ending, Fork, Forking, History, IsScopeRow, IsTaskRow, Legal, Limits, Never, RowTable, ScopeRow, Unavailable, Waiting, Words.finished, altered, count_fork, ending, followed, forked}
use Rattle.scope_rows.specs.{forked_count, forking, innermost, is_cancelled, is_fork, is_open, new_task_row, option_map_or, place_of, recount, stage, state_of, tasks}
use Rattle.scope_rows.proofs.Words.{count_push, eq-eqb, finished_grows, fork_passed, innermost_same, ne_eqb, next_forking, no_ending, or_from, stage_forked, state_is}
use Rattle.scope_rows.proofs.{Altering.altered_length, CountMoves.fork_counted, CountMoves.fork_elsewhere, Frames.closed_same, Frames.closing_same, Frames.joining_same, Frames.scope_index, Frames.scope_on, Frames.task_kept}
use Rattle.scope_rows.proofs.{Frames.violated_same, Keeping.count_same, Places.AreRight, Places.opened_has, Places.right_altered, Places.right_pushed, Unforked.next_unforked, Unforked.unforked_innermost}
use Rattle.scope_rows.proofs.{Unforked.unforked_unfinished}

module _ (L : Limits) (h : History) (t : RowTable) (f : Forking) (cancelled : Bool) (legal : Legal L h) (ok : Accepts L h (Fork f.actor f.scope f.label)) (are : AreRowsOf h t) (at_end : f.place ≡ length h.events) (cut : cancelled ≡ is_cancelled h f.scope) where
  -- the forking of the new task
  forking_is : forking (followed h (Fork f.actor f.scope f.label)) (tasks h + 1) ≡ Some f
  forking_is =
      next_forking h f.actor f.scope f.label ∙ ap (λ n. Some (record f { place = n })) (sym at_end)

  -- its stage
  stage_is : stage (followed h (Fork f.actor f.scope f.label)) (tasks h + 1) ≡ cond cancelled Never Waiting
  stage_is = stage_forked L h f.actor f.scope f.label legal ok ∙ ap (λ b. cond b Never Waiting) (sym cut)

  -- the new task has not ended
  unended : ending (followed h (Fork f.actor f.scope f.label)) (tasks h + 1) ≡ None
  unended =
      no_ending (followed h (Fork f.actor f.scope f.label)) (tasks h + 1)
      (finished_grows h (Fork f.actor f.scope f.label) (tasks h + 1) ∙ or_from (finished h (tasks h + 1)) false (unforked_unfinished L h (tasks h + 1) legal (next_unforked h)) refl)

  -- a fork leaves the innermost scopes
  inner : (a : ℕ) → innermost (followed h (Fork f.actor f.scope f.label)) a ≡ innermost h a
  inner a = innermost_same h (Fork f.actor f.scope f.label) a refl (λ n. refl)

  -- the row of the new task is right
  new_row : IsTaskRow (followed h (Fork f.actor f.scope f.label)) (tasks h + 1) (new_task_row f.scope f.place cancelled)
  new_row = record {
    forked = f;
    is = forking_is;
    scope = refl;
    place = refl;
    stage = stage_is;
    state = state_is (followed h (Fork f.actor f.scope f.label)) (tasks h + 1) f forking_is ∙ ap (λ (o : Option Ending). option_map_or (state_of (followed h (Fork f.actor f.scope f.label)) f) o Unavailable) unended;
    innermost = inner (tasks h + 1) ∙ unforked_innermost L h (tasks h + 1) legal (λ same. absurd (omega (arith, same))) (next_unforked h);
  }

  -- the row of its scope
  scope_here : (s : ℕ) (r : ScopeRow) → (f.scope == s) ≡ true → IsScopeRow h s r → IsScopeRow (followed h (Fork f.actor f.scope f.label)) s (recount (count_fork cancelled) r)
  scope_here s r of it =
      let e = Fork f.actor f.scope f.label in
      scope_on h e s r r.joined r.closing r.closed r.violated (count_fork cancelled r.counts) it
      (joining_same h e s refl ∙ it.joined) (closing_same h e s refl ∙ it.closing) (closed_same h e s refl ∙ it.closed) (violated_same h e s refl ∙ it.violated)
      (fork_counted L h f legal s r.counts cancelled of it.counts forking_is stage_is)

  -- the row of another scope
  scope_elsewhere : (s : ℕ) (r : ScopeRow) → (f.scope == s) ≡ false → IsScopeRow h s r → IsScopeRow (followed h (Fork f.actor f.scope f.label)) s r
  scope_elsewhere s r other it = scope_index h (Fork f.actor f.scope f.label) s r it refl refl refl refl (fork_elsewhere L h f legal s (cond cancelled Never Waiting) other forking_is stage_is)

  -- the rows of all scopes
  forked_scopes : AreRight (IsScopeRow (followed h (Fork f.actor f.scope f.label))) t.scopes_before (altered (recount (count_fork cancelled)) t.scopes (place_of t.scopes_before f.scope))
  forked_scopes =
      let owner = (fork_passed L h f.actor f.scope f.label ok).owner in
      let has = opened_has h t f.scope are (record { opened = owner.opened; is = owner.is }) in
      right_altered (IsScopeRow h) (IsScopeRow (followed h (Fork f.actor f.scope f.label))) (recount (count_fork cancelled)) t.scopes_before t.scopes f.scope has.0
      (λ n r apart it. scope_elsewhere n r (ne_eqb f.scope n (λ same. apart (sym same))) it) (λ r at it. scope_here f.scope r (eq-eqb f.scope f.scope refl) it) are.scopes

  -- the rows of all tasks
  forked_tasks : AreRight (IsTaskRow (followed h (Fork f.actor f.scope f.label))) t.tasks_before (t.tasks ++ new_task_row f.scope f.place cancelled ∷ [])
  forked_tasks =
      let e = Fork f.actor f.scope f.label in
      right_pushed (IsTaskRow h) (IsTaskRow (followed h e)) t.tasks_before t.tasks (new_task_row f.scope f.place cancelled) (tasks h + 1) (omega (arith, are.tasks_before, are.task_count))
      (λ n r less it. task_kept L h e n r legal it refl refl refl (inner n)) new_row are.tasks

  -- the rows with the new task agree after the fork
  pub rows_forked : AreRowsOf (followed h (Fork f.actor f.scope f.label)) (forked t f.scope f.place cancelled)
  rows_forked = record {
    scopes_before = are.scopes_before;
    tasks_before = are.tasks_before;
    main = inner 0 ∙ are.main;
    scope_count = altered_length (recount (count_fork cancelled)) t.scopes (place_of t.scopes_before f.scope) ∙ (are.scope_count ∙ sym (count_same is_open h (Fork f.actor f.scope f.label) refl));
    task_count =
        let grown : forked_count (followed h (Fork f.actor f.scope f.label)) ≡ forked_count h + 1 = omega (arith, count_push is_fork h.events (Fork f.actor f.scope f.label)) in
        omega (arith, length-append t.tasks (new_task_row f.scope f.place cancelled ∷ []), are.task_count, grown);
    scopes = forked_scopes;
    tasks = forked_tasks;
  }
