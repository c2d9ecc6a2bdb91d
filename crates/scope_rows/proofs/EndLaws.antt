-- The rows after the end of a close.
use Rattle.std.proofs.Common.{ℕ, ◌||◌, ◌∙◌, ◌≡◌, ◌≢◌, Some, ap, refl, sym, true}
use Rattle.scope_rows.specs.{Accepts, AreRowsOf, EndClose, History, IsScopeRow, Legal, Limits, Opening, RowTable, ScopeRow, altered, before, below_of, close_ended, closed, closed_row, followed, innermost, is_fork, is_open}
use Rattle.scope_rows.specs.{option_and_then, place_of}
use Rattle.scope_rows.proofs.Words.{closed_grows, end_close_passed, eq-eqb, innermost_end_other, innermost_ended, ne_eqb, or_right}
use Rattle.scope_rows.proofs.{Actors.actor_has, Altering.altered_length, Frames.closing_same, Frames.joining_same, Frames.scope_index, Frames.scope_on, Frames.violated_same, InnerMoves.main_moved, InnerMoves.tasks_length}
use Rattle.scope_rows.proofs.{InnerMoves.tasks_moved, Keeping.count_same, Keeping.counts_kept, Places.AreRight, Places.ScopeRowAt, Places.right_altered, Places.scope_at, Places.scope_row_is}

-- what the row of a scope says is below it
pub below_is : (h : History) (t : RowTable) (s : ℕ) (it : ScopeRowAt h t s) → below_of t.scopes_before t.scopes s ≡ it.row.below
below_is h t s it = ap (option_and_then (λ (r : ScopeRow). r.below)) (scope_row_is h t s it)

module _ (L : Limits) (h : History) (t : RowTable) (a s : ℕ) (legal : Legal L h) (ok : Accepts L h (EndClose a s)) (are : AreRowsOf h t) where
  -- the row of the scope itself
  ended_here : (r : ScopeRow) → IsScopeRow h s r → IsScopeRow (followed h (EndClose a s)) s (closed_row r)
  ended_here r it =
      let e = EndClose a s in
      scope_on h e s r r.joined r.closing true r.violated r.counts it
      (joining_same h e s refl ∙ it.joined) (closing_same h e s refl ∙ it.closing)
      (closed_grows h e s ∙ (ap (λ b. closed h s || b) (eq-eqb s s refl) ∙ or_right (closed h s) true refl))
      (violated_same h e s refl ∙ it.violated) (counts_kept L h e s legal refl (λ j. (refl, refl, refl)) ∙ it.counts)

  -- the row of another scope
  ended_elsewhere : (n : ℕ) (r : ScopeRow) → n ≢ s → IsScopeRow h n r → IsScopeRow (followed h (EndClose a s)) n r
  ended_elsewhere n r apart it =
      scope_index h (EndClose a s) n r it refl refl (ne_eqb s n (λ same. apart (sym same))) refl (counts_kept L h (EndClose a s) n legal refl (λ j. (refl, refl, refl)))

  -- the scope has a row
  row_at : ScopeRowAt h t s
  row_at = let owner = (end_close_passed L h a s ok).owner in scope_at h t s are (record { opened = owner.opened; is = owner.is })

  -- the rows of all scopes
  ended_scopes : AreRight (IsScopeRow (followed h (EndClose a s))) t.scopes_before (altered closed_row t.scopes (place_of t.scopes_before s))
  ended_scopes = right_altered (IsScopeRow h) (IsScopeRow (followed h (EndClose a s))) closed_row t.scopes_before t.scopes s row_at.has.0 ended_elsewhere (λ r at it. ended_here r it) are.scopes

  -- the actor's innermost scope is the one below
  inner_now : innermost (followed h (EndClose a s)) a ≡ below_of t.scopes_before t.scopes s
  inner_now =
      let owner = (end_close_passed L h a s ok).owner in
      let o = row_at.row.opening in
      let same : Some owner.opened ≡ Some o = sym owner.is ∙ row_at.says.opening in
      let one : owner.opened ≡ o = cc in
      let by : o.actor ≡ a = ap (λ (x : Opening). x.actor) (sym one) ∙ owner.by in
      innermost_ended L h a s o legal ok row_at.says.opening
      ∙ (ap (innermost (before h o.place)) (sym by) ∙ (row_at.says.below ∙ sym (below_is h t s row_at)))

  -- the rows with the scope closed agree after the end
  pub rows_ended : AreRowsOf (followed h (EndClose a s)) (close_ended t a s)
  rows_ended =
      let e = EndClose a s in
      let i = below_of t.scopes_before t.scopes s in
      let has = actor_has h t a are (end_close_passed L h a s ok).acts in
      let others : (b : ℕ) → b ≢ a → innermost (followed h e) b ≡ innermost h b = λ b apart. innermost_end_other L h b a s ok (λ same. apart (sym same)) in
      record {
        scopes_before = are.scopes_before;
        tasks_before = are.tasks_before;
        main = main_moved L h e t a i legal are has (λ j. (refl, refl, refl)) inner_now others;
        scope_count = altered_length closed_row t.scopes (place_of t.scopes_before s) ∙ (are.scope_count ∙ sym (count_same is_open h e refl));
        task_count = tasks_length t a i ∙ (are.task_count ∙ sym (count_same is_fork h e refl));
        scopes = ended_scopes;
        tasks = tasks_moved L h e t a i legal are has (λ j. (refl, refl, refl)) inner_now others;
      }
