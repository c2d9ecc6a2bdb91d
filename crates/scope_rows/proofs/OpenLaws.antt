-- The rows after an open.
use Rattle.std.proofs.Common.{[], ℕ, ◌++◌, ◌+◌, ◌∙◌, ◌∷◌, ◌≡◌, ◌≢◌, Option, Some, ap, arith, length, length-append, refl, sym}
use Rattle.scope_rows.specs.{Accepts, AreRowsOf, Finished, History, IsScopeRow, Legal, Limits, Never, Open, Opening, RowTable, Running, Waiting, around, before, followed, innermost, innermost_of, is_fork, is_open, new_scope_row}
use Rattle.scope_rows.specs.{opened, opened_count, opening, option_and_then, parent, scopes, stack, surrounding}
use Rattle.scope_rows.proofs.Words.{HasNoTask, before_last, count_push, forking_same, innermost_open_other, innermost_opened, next_opening, no_tally, open_passed}
use Rattle.scope_rows.proofs.{Actors.actor_has, Frames.closed_same, Frames.closing_same, Frames.counts_by, Frames.joining_same, Frames.scope_index, Frames.violated_same, InnerMoves.main_moved, InnerMoves.tasks_length}
use Rattle.scope_rows.proofs.{InnerMoves.tasks_moved, Keeping.count_same, Keeping.counts_kept, Places.AreRight, Places.right_pushed, Reading.innermost_says, Unopened.next_unopened, Unopened.unopened_unsaid}

module _ (L : Limits) (h : History) (t : RowTable) (o : Opening) (inside : Option ℕ) (height : ℕ) (legal : Legal L h) (ok : Accepts L h (Open o.actor o.policy o.options)) (are : AreRowsOf h t) (at_end : o.place ≡ length h.events) (parent_is : inside ≡ surrounding h o.actor) (height_is : height ≡ length (stack h o.actor)) where
  -- the opening of the new scope
  opening_is : opening (followed h (Open o.actor o.policy o.options)) (scopes h + 1) ≡ Some o
  opening_is = next_opening h o.actor o.policy o.options ∙ ap (λ n. Some (record o { place = n })) (sym at_end)

  -- before the new scope stands all that there was
  then_is : before (followed h (Open o.actor o.policy o.options)) o.place ≡ h
  then_is = ap (before (followed h (Open o.actor o.policy o.options))) at_end ∙ before_last h (Open o.actor o.policy o.options)

  -- its parent
  parent_there : parent (followed h (Open o.actor o.policy o.options)) (scopes h + 1) ≡ inside
  unfolding parent
  parent_there =
      ap (option_and_then (around (followed h (Open o.actor o.policy o.options)))) opening_is
      ∙ (ap (λ (g : History). surrounding g o.actor) then_is ∙ sym parent_is)

  -- no task was forked in it
  no_task : HasNoTask (followed h (Open o.actor o.policy o.options)) (scopes h + 1)
  no_task k f is =
      (unopened_unsaid L h (scopes h + 1) legal (next_unopened h)).tasks k f (sym (forking_same h (Open o.actor o.policy o.options) k refl) ∙ is)

  -- its row is right
  new_row : IsScopeRow (followed h (Open o.actor o.policy o.options)) (scopes h + 1) (new_scope_row o inside (innermost_of t o.actor) height)
  new_row =
      let e = Open o.actor o.policy o.options in
      let s = scopes h + 1 in
      let unsaid = unopened_unsaid L h s legal (next_unopened h) in
      record {
        opening = opening_is;
        parent = parent_there;
        below = ap (λ (g : History). innermost g o.actor) then_is ∙ sym (innermost_says L h t o.actor legal are);
        height = ap (λ (g : History). length (stack g o.actor)) then_is ∙ sym height_is;
        joined = joining_same h e s refl ∙ unsaid.joined;
        closing = closing_same h e s refl ∙ unsaid.closing;
        closed = closed_same h e s refl ∙ unsaid.closed;
        violated = violated_same h e s refl ∙ unsaid.violated;
        counts = counts_by (followed h e) s 0 0 0 0 (no_tally (followed h e) s Never no_task) (no_tally (followed h e) s Waiting no_task) (no_tally (followed h e) s Running no_task) (no_tally (followed h e) s Finished no_task);
      }

  -- the rows of all scopes
  opened_scopes : AreRight (IsScopeRow (followed h (Open o.actor o.policy o.options))) t.scopes_before (t.scopes ++ new_scope_row o inside (innermost_of t o.actor) height ∷ [])
  opened_scopes =
      let e = Open o.actor o.policy o.options in
      right_pushed (IsScopeRow h) (IsScopeRow (followed h e)) t.scopes_before t.scopes (new_scope_row o inside (innermost_of t o.actor) height) (scopes h + 1) (omega (arith, are.scopes_before, are.scope_count))
      (λ n r less it. scope_index h e n r it refl refl refl refl (counts_kept L h e n legal refl (λ j. (refl, refl, refl)))) new_row are.scopes

  -- the rows with the new scope agree after the open
  pub rows_opened : AreRowsOf (followed h (Open o.actor o.policy o.options)) (opened t o inside height)
  rows_opened =
      let e = Open o.actor o.policy o.options in
      let has = actor_has h t o.actor are (open_passed L h o.actor o.policy o.options ok) in
      let number : scopes h + 1 ≡ t.scopes_before + length t.scopes + 1 = omega (arith, are.scopes_before, are.scope_count) in
      let now = innermost_opened L h o.actor o.policy o.options legal ∙ ap Some number in
      let others : (b : ℕ) → b ≢ o.actor → innermost (followed h e) b ≡ innermost h b = λ b apart. innermost_open_other h b o.actor o.policy o.options (λ same. apart (sym same)) in
      let i = Some (t.scopes_before + length t.scopes + 1) in
      record {
        scopes_before = are.scopes_before;
        tasks_before = are.tasks_before;
        main = main_moved L h e t o.actor i legal are has (λ j. (refl, refl, refl)) now others;
        scope_count =
            let grown : opened_count (followed h e) ≡ opened_count h + 1 = omega (arith, count_push is_open h.events e) in
            omega (arith, length-append t.scopes (new_scope_row o inside (innermost_of t o.actor) height ∷ []), are.scope_count, grown);
        task_count = tasks_length t o.actor i ∙ (are.task_count ∙ sym (count_same is_fork h e refl));
        scopes = opened_scopes;
        tasks = tasks_moved L h e t o.actor i legal are has (λ j. (refl, refl, refl)) now others;
      }
