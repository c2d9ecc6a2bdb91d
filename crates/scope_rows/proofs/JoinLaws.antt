-- The rows after a join.
use Rattle.std.proofs.Common.{ℕ, ◌∙◌, ◌≡◌, ◌≢◌, None, Some, ap, cond, false, length, refl, subst, sym}
use Rattle.scope_rows.specs.{Accepts, AreRowsOf, HasScope, History, IsScopeRow, Join, Legal, Limits, RowTable, ScopeRow, Words.joined, followed, is_fork, is_open, joined_row, joining, option_or, place_of, row_check}
use Rattle.scope_rows.proofs.Words.{IsOpened, checks_at, eq-eqb, innermost_same, ne_eqb, not_refused, scope_passed}
use Rattle.scope_rows.proofs.{Altering.altered_length, Frames.closed_same, Frames.closing_same, Frames.scope_index, Frames.scope_on, Frames.violated_same, Joinings.joining_grows, Joinings.unjoined, Keeping.count_same}
use Rattle.scope_rows.proofs.{Keeping.counts_kept, Keeping.tasks_kept, Places.opened_has, Places.right_altered}
use Rattle.scope_rows.specs.Steps.{joined as joined_rows}

-- what is accepted to be joined was opened, and isn't joined
pub join_passed : (L : Limits) (h : History) (a s : ℕ) → Accepts L h (Join a s) → IsOpened h s × (joined h s ≡ false)
unfolding row_check
join_passed L h a s ok = (scope_passed h s (checks_at _ 1 _ ok.passed refl), not_refused _ _ (checks_at _ 4 _ ok.passed refl))

-- rows that agree have a row of what is joined
pub join_has : (L : Limits) (h : History) (t : RowTable) (a s : ℕ) → Accepts L h (Join a s) → AreRowsOf h t → HasScope t s
join_has L h t a s ok are = opened_has h t s are (join_passed L h a s ok).0

-- the row of the scope itself
joined_here : (L : Limits) (h : History) (a s : ℕ) (r : ScopeRow) → Legal L h → joined h s ≡ false → IsScopeRow h s r → IsScopeRow (followed h (Join a s)) s (joined_row (length h.events) r)
joined_here L h a s r legal none it =
    let e = Join a s in
    scope_on h e s r (Some (length h.events)) r.closing r.closed r.violated r.counts it
    (joining_grows h e s ∙ (ap (λ b. option_or (joining h s) (cond b (Some (length h.events)) None)) (eq-eqb s s refl) ∙ ap (λ o. option_or o (Some (length h.events))) (unjoined h s none)))
    (closing_same h e s refl ∙ it.closing) (closed_same h e s refl ∙ it.closed) (violated_same h e s refl ∙ it.violated) (counts_kept L h e s legal refl (λ j. (refl, refl, refl)) ∙ it.counts)

-- the row of another scope
joined_elsewhere : (L : Limits) (h : History) (a s n : ℕ) (r : ScopeRow) → Legal L h → n ≢ s → IsScopeRow h n r → IsScopeRow (followed h (Join a s)) n r
joined_elsewhere L h a s n r legal apart it =
    scope_index h (Join a s) n r it (ne_eqb s n (λ same. apart (sym same))) refl refl refl (counts_kept L h (Join a s) n legal refl (λ j. (refl, refl, refl)))

-- the rows with the place of the join agree after it
pub rows_joined : (L : Limits) (h : History) (t : RowTable) (a s place : ℕ) → Legal L h → Accepts L h (Join a s) → AreRowsOf h t → place ≡ length h.events → AreRowsOf (followed h (Join a s)) (joined_rows t s place)
rows_joined L h t a s place legal ok are now =
    let e = Join a s in
    let passed = join_passed L h a s ok in
    let has = opened_has h t s are passed.0 in
    let inner : (b : ℕ) → _ ≡ _ = λ b. innermost_same h e b refl (λ n. refl) in
    record {
      scopes_before = are.scopes_before;
      tasks_before = are.tasks_before;
      main = inner 0 ∙ are.main;
      scope_count = altered_length (joined_row place) t.scopes (place_of t.scopes_before s) ∙ (are.scope_count ∙ sym (count_same is_open h e refl));
      task_count = are.task_count ∙ sym (count_same is_fork h e refl);
      scopes =
          right_altered (IsScopeRow h) (IsScopeRow (followed h e)) (joined_row place) t.scopes_before t.scopes s has.0 (λ n r apart it. joined_elsewhere L h a s n r legal apart it)
          (λ r at it. subst (λ n. IsScopeRow (followed h e) s (joined_row n r)) (sym now) (joined_here L h a s r legal passed.1 it)) are.scopes;
      tasks = tasks_kept L h e t legal are (λ j. (refl, refl, refl)) inner;
    }
