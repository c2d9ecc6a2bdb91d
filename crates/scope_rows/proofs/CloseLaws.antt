-- The rows after the beginning of a close.
use Rattle.std.proofs.Common.{ℕ, ◌&&◌, ◌+◌, ◌==◌, ◌||◌, ◌∙◌, ◌≡◌, ◌≢◌, ◌≤◌, Bool, None, Option, Some, ap, arith, false, inl, inr, not, refl, slice_get, subst, sym, true}
use Rattle.scope_rows.specs.{Accepts, AreRowsOf, BeginClose, History, IsScopeRow, Legal, Limits, Opening, RowTable, ScopeRow, altered, before, close_begun, closing, closing_row, covers, covers_another, followed, innermost}
use Rattle.scope_rows.specs.{innermost_of, is_fork, is_innermost, is_open, is_this, marked, marked_within, option_map, place_of, violated, violated_row, walk_length}
use Rattle.scope_rows.proofs.Words.{HasUnclosed, begin_close_passed, closing_grows, covers_by_innermost, eq-eqb, innermost_same, innermost_unclosed, live_is_unclosed, ne_eqb, or_right, unclosed_innermost, violated_grows}
use Rattle.scope_rows.proofs.{Altering.altered_length, Altering.altered_split, EndLaws.below_is, Frames.closed_same, Frames.joining_same, Frames.scope_index, Frames.scope_on, Frames.violated_same, Keeping.count_same}
use Rattle.scope_rows.proofs.{Keeping.counts_kept, Keeping.tasks_kept, MarkLaws.AreBelow, MarkLaws.Marks, MarkLaws.covered_unclosed, MarkLaws.marks, MarkLaws.unclosed_covered, Marking.marked_length, Places.number_apart}
use Rattle.scope_rows.proofs.{Places.number_at, Places.scope_at, Reading.innermost_says, Walks.IsGreatestBelow, Walks.greatest_below}

-- below each unclosed scope of an actor its row has the greatest that the actor has there
pub are_below : (L : Limits) (h : History) (t : RowTable) (a : ℕ) → Legal L h → AreRowsOf h t → AreBelow h a t.scopes_before t.scopes
are_below L h t a legal are u own =
    let it = scope_at h t u are (record { opened = own.opened; is = own.is }) in
    let o = it.row.opening in
    let same : Some own.opened ≡ Some o = sym own.is ∙ it.says.opening in
    let one : own.opened ≡ o = cc in
    let by : o.actor ≡ a = ap (λ (x : Opening). x.actor) (sym one) ∙ own.by in
    let greatest = subst (λ n. IsGreatestBelow h n u (innermost (before h o.place) o.actor)) by (greatest_below L h u o legal it.says.opening own.unclosed) in
    (subst (IsGreatestBelow h a u) (it.says.below ∙ sym (below_is h t u it)) greatest, it.has.0)

-- a row that a change made of another
record IsMade (f : ScopeRow → ScopeRow) (o : Option ScopeRow) (r : ScopeRow) : Type 0 where
  was : ScopeRow
  at : o ≡ Some was
  is : f was ≡ r

-- what is there after a change was made of what was there
made_by : (f : ScopeRow → ScopeRow) (o : Option ScopeRow) (r : ScopeRow) → option_map f o ≡ Some r → IsMade f o r
made_by f None r found = absurd cc
made_by f (Some x) r found = record { was = x; at = refl; is = cc }

module _ (L : Limits) (h : History) (t : RowTable) (a s : ℕ) (legal : Legal L h) (ok : Accepts L h (BeginClose a s)) (are : AreRowsOf h t) where
  -- the actor opened the scope, and hasn't closed it
  own : HasUnclosed h a s
  own =
      let row = begin_close_passed L h a s ok in
      record { opened = row.owner.opened; is = row.owner.is; by = row.owner.by; unclosed = live_is_unclosed L h s legal row.live }

  -- the close is out of order if another scope is innermost
  covers_is : covers_another h s ≡ not (is_this (innermost_of t a) s)
  unfolding is_innermost
  covers_is =
      covers_by_innermost h s own.opened own.is own.unclosed
      ∙ (ap (λ n. not (is_innermost h n s)) own.by
      ∙ ap (λ i. not (is_this i s)) (sym (innermost_says L h t a legal are)))

  -- what the walk marks
  walked : Marks h t.scopes_before s (unclosed_innermost h a s own).scope t.scopes (marked t.scopes_before s (innermost_of t a) t.scopes)
  unfolding marked
  walked =
      let found = unclosed_innermost h a s own in
      let inner : innermost_of t a ≡ Some found.scope = innermost_says L h t a legal are ∙ found.is in
      subst (λ i. Marks h t.scopes_before s found.scope t.scopes (marked_within (walk_length i) t.scopes_before s i t.scopes)) (sym inner)
      (marks h a t.scopes_before s own (walk_length (Some found.scope)) found.scope t.scopes (innermost_unclosed h a found.scope found.is) found.least (omega arith) (are_below L h t a legal are))

  -- what is covered is no later than the actor's innermost scope
  within : (k : ℕ) → covers h s k ≡ true → k ≤ (unclosed_innermost h a s own).scope
  within k covered =
      let found = unclosed_innermost h a s own in
      let other = unclosed_innermost h a k (covered_unclosed h a s k own covered).0 in
      let both : Some found.scope ≡ Some other.scope = sym found.is ∙ other.is in
      let same : found.scope ≡ other.scope = cc in
      omega (arith, same, other.least)

  -- a covered scope is closing
  covered_row : (k : ℕ) (r : ScopeRow) (v : Bool) → covers h s k ≡ true → violated (followed h (BeginClose a s)) k ≡ v → IsScopeRow h k r → IsScopeRow (followed h (BeginClose a s)) k (record r { closing = true; violated = v })
  covered_row k r v covered verdict it =
      let e = BeginClose a s in
      scope_on h e k r r.joined true r.closed v r.counts it
      (joining_same h e k refl ∙ it.joined)
      (closing_grows h e k ∙ (ap (λ b. closing h k || b) covered ∙ or_right (closing h k) true refl))
      (closed_same h e k refl ∙ it.closed) verdict (counts_kept L h e k legal refl (λ j. (refl, refl, refl)) ∙ it.counts)

  -- the row of the scope itself
  begun_here : (r : ScopeRow) → IsScopeRow h s r → IsScopeRow (followed h (BeginClose a s)) s (violated_row (not (is_this (innermost_of t a) s)) (closing_row r))
  begun_here r it =
      let e = BeginClose a s in
      covered_row s r (r.violated || not (is_this (innermost_of t a) s)) (unclosed_covered h a s s own own (omega arith))
      (violated_grows h e s ∙ (ap (λ b. violated h s || (b && covers_another h s)) (eq-eqb s s refl) ∙ (ap (λ b. b || covers_another h s) it.violated ∙ ap (λ b. r.violated || b) covers_is)))
      it

  -- the row of another scope
  begun_elsewhere : (i : ℕ) (r : ScopeRow) (b : Bool) → covers h s ((t.scopes_before + 1) + i) ≡ b → (t.scopes_before + 1) + i ≢ s → slice_get (marked t.scopes_before s (innermost_of t a) t.scopes) i ≡ Some r
      → IsScopeRow (followed h (BeginClose a s)) ((t.scopes_before + 1) + i) r
  begun_elsewhere i r true covered apart at =
      let e = BeginClose a s in
      let k = (t.scopes_before + 1) + i in
      let it = made_by closing_row (slice_get t.scopes i) r (sym (walked.hit i covered (within k covered)) ∙ at) in
      let was = are.scopes i it.was it.at in
      let other : (s == k) ≡ false = ne_eqb s k (λ same. apart (sym same)) in
      subst (λ x. IsScopeRow (followed h e) k x) it.is
      (covered_row k it.was it.was.violated covered (violated_same h e k (ap (λ b. b && covers_another h k) other) ∙ was.violated) was)
  begun_elsewhere i r false uncovered apart at =
      let e = BeginClose a s in
      let k = (t.scopes_before + 1) + i in
      let was = are.scopes i r (sym (walked.missed i (inl uncovered)) ∙ at) in
      let other : (s == k) ≡ false = ne_eqb s k (λ same. apart (sym same)) in
      scope_index h e k r was refl uncovered refl (ap (λ b. b && covers_another h k) other) (counts_kept L h e k legal refl (λ j. (refl, refl, refl)))

  -- the rows of all scopes
  begun_scopes : (i : ℕ) (r : ScopeRow) → slice_get (altered (violated_row (not (is_this (innermost_of t a) s))) (marked t.scopes_before s (innermost_of t a) t.scopes) (place_of t.scopes_before s)) i ≡ Some r
      → IsScopeRow (followed h (BeginClose a s)) (t.scopes_before + 1 + i) r
  begun_scopes i r at =
      let e = BeginClose a s in
      let has = (scope_at h t s are (record { opened = own.opened; is = own.is })).has in
      let k = (t.scopes_before + 1) + i in
      elim (altered_split (violated_row (not (is_this (innermost_of t a) s))) (marked t.scopes_before s (innermost_of t a) t.scopes) (place_of t.scopes_before s) i r at) [
        | inl here ↦
            let number : k ≡ s = ap (λ n. (t.scopes_before + 1) + n) here.0 ∙ number_at t.scopes_before s has.0 in
            let covered : covers h s k ≡ true = ap (covers h s) number ∙ unclosed_covered h a s s own own (omega arith) in
            let it = made_by closing_row (slice_get t.scopes i) here.1.was (sym (walked.hit i covered (within k covered)) ∙ here.1.at) in
            let was = subst (λ n. IsScopeRow h n it.was) number (are.scopes i it.was it.at) in
            let row : violated_row (not (is_this (innermost_of t a) s)) (closing_row it.was) ≡ r = ap (violated_row (not (is_this (innermost_of t a) s))) it.is ∙ here.1.is in
            subst (λ n. IsScopeRow (followed h e) n r) (sym number) (subst (λ x. IsScopeRow (followed h e) s x) row (begun_here it.was was))
        | inr there ↦ begun_elsewhere i r (covers h s k) refl (number_apart t.scopes_before i s has.0 there.0) there.1
      ]

  -- the rows with the close begun agree after it
  pub rows_begun : AreRowsOf (followed h (BeginClose a s)) (close_begun t a s)
  unfolding marked
  rows_begun =
      let e = BeginClose a s in
      let inner : (b : ℕ) → innermost (followed h e) b ≡ innermost h b = λ b. innermost_same h e b refl (λ n. refl) in
      record {
        scopes_before = are.scopes_before;
        tasks_before = are.tasks_before;
        main = inner 0 ∙ are.main;
        scope_count =
            altered_length (violated_row (not (is_this (innermost_of t a) s))) (marked t.scopes_before s (innermost_of t a) t.scopes) (place_of t.scopes_before s)
            ∙ (marked_length (walk_length (innermost_of t a)) t.scopes_before s (innermost_of t a) t.scopes ∙ (are.scope_count ∙ sym (count_same is_open h e refl)));
        task_count = are.task_count ∙ sym (count_same is_fork h e refl);
        scopes = begun_scopes;
        tasks = tasks_kept L h e t legal are (λ j. (refl, refl, refl)) inner;
      }
