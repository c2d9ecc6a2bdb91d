-- The walk that marks scopes as closing, step by step.
use Rattle.std.proofs.Common.{ℕ, ◌+◌, ◌<◌, ◌==◌, ◌∙◌, ◌≡◌, ◌≢◌, ◌≤◌, Bool, IfSome, List, None, Option, Some, ap, arith, cond, false, get_or, inl, inr, length, refl, slice_get, subst, suc, sym, true, zero}
use Rattle.scope_rows.specs.{AreLinked, Entries, IsNumbered, ScopeRow, altered, below_of, closing_row, marked, marked_within, onward_from, option_and_then, place_of, walk_length}
use Rattle.scope_rows.proofs.Words.{eq-eqb, ne_eqb}
use Rattle.scope_rows.proofs.{Altering.altered_length, Altering.altered_read, Altering.altered_split, Places.number_read, Places.place_within, Places.row_is}

-- what is left to mark makes of the rows so far what there was to mark made of the rows at first
pub record IsMarkedOn (before s : ℕ) (next : Option ℕ) (rows : List ScopeRow) (from : Option ℕ) (first : List ScopeRow) : Type 0 where
  pub steps : ℕ
  pub enough : walk_length next ≤ steps
  pub is : marked_within steps before s next rows ≡ marked before s from first

-- all that the walk keeps
pub record IsWalked (before s : ℕ) (next : Option ℕ) (rows : List ScopeRow) (from : Option ℕ) (first : List ScopeRow) : Type 0 where
  pub linked : AreLinked before rows
  pub within : IfSome next (IsNumbered before rows)
  pub left : IsMarkedOn before s next rows from first

-- nothing is marked at first
pub walk_start : (before s : ℕ) (from : Option ℕ) (rows : List ScopeRow) → AreLinked before rows → IfSome from (IsNumbered before rows) → IsWalked before s from rows from rows
unfolding marked
walk_start before s from rows linked within = record {
  linked = linked;
  within = within;
  left = record { steps = walk_length from; enough = omega arith; is = refl };
}

-- nothing is left if no scope is next
pub marked_none : (n before s : ℕ) (rows : List ScopeRow) → marked_within n before s None rows ≡ rows
marked_none zero before s rows = refl
marked_none (suc n) before s rows = refl

-- all is marked at the end
pub walk_end : (before s : ℕ) (next : Option ℕ) (rows : List ScopeRow) (from : Option ℕ) (first : List ScopeRow) → next ≡ None → IsWalked before s next rows from first → rows ≡ marked before s from first
walk_end before s next rows from first none so =
    sym (marked_none so.left.steps before s rows) ∙ (ap (λ o. marked_within so.left.steps before s o rows) (sym none) ∙ so.left.is)

-- the marks leave what is below each scope
linked_on : (before : ℕ) (rows : List ScopeRow) (p : ℕ) → AreLinked before rows → AreLinked before (altered closing_row rows p)
linked_on before rows p linked i r b at below =
    elim (altered_split closing_row rows p i r at) [
      | inl here ↦ linked i here.1.was b here.1.at (ap (λ (x : ScopeRow). x.below) here.1.is ∙ below)
      | inr there ↦ linked i r b there.1 below
    ]

-- where the walk goes on is below, or nowhere
onward_below : (before s : ℕ) (rows : List ScopeRow) (here b : ℕ) → AreLinked before rows → IsNumbered before rows here → onward_from before s rows here ≡ Some b → (before < b) × (b < here)
onward_below before s rows here b linked has is = by (here == s) is
  where
    by : (c : Bool) → cond c None (below_of before rows here) ≡ Some b → (before < b) × (b < here)
    by true found = absurd (let none : None ≡ Some b = found in cc)
    by false found =
        let place = place_of before here in
        let within = place_within before (length rows) here has.0 has.1 in
        let at = row_is before rows here has.0 in
        some_below (slice_get rows place) refl (ap (option_and_then (λ (r : ScopeRow). r.below)) (sym at) ∙ found)
      where
        some_below : (o : Option ScopeRow) → slice_get rows (place_of before here) ≡ o → option_and_then (λ (r : ScopeRow). r.below) o ≡ Some b → (before < b) × (b < here)
        some_below None at none = absurd cc
        some_below (Some r) at below =
            let it = linked (place_of before here) r b at below in
            (it.0, omega (arith, it.1, has.0))

-- where the walk goes on there is a row
within_on : (before : ℕ) (rows : List ScopeRow) (p here : ℕ) (next : Option ℕ) → IsNumbered before rows here → ((b : ℕ) → next ≡ Some b → (before < b) × (b < here)) → IfSome next (IsNumbered before (altered closing_row rows p))
within_on before rows p here None has below = tt
within_on before rows p here (Some b) has below =
    let it = below b refl in
    (it.0, omega (arith, it.1, has.1, altered_length closing_row rows p))

-- and fewer scopes are left
shorter : (here : ℕ) (next : Option ℕ) (before : ℕ) → ((b : ℕ) → next ≡ Some b → (before < b) × (b < here)) → walk_length next ≤ here
shorter here None before below = omega arith
shorter here (Some b) before below = omega (arith, (below b refl).1)

-- one scope less is left to mark
step_left : (n before s here : ℕ) (rows : List ScopeRow) (from : Option ℕ) (first : List ScopeRow) (next : Option ℕ) → next ≡ onward_from before s rows here → walk_length next ≤ here → here + 1 ≤ n
    → marked_within n before s (Some here) rows ≡ marked before s from first → IsMarkedOn before s next (altered closing_row rows (place_of before here)) from first
step_left zero before s here rows from first next is shorter_by enough so = absurd (omega arith)
step_left (suc n) before s here rows from first next is shorter_by enough so = record {
  steps = n;
  enough = omega arith;
  is = ap (λ o. marked_within n before s o (altered closing_row rows (place_of before here))) is ∙ so;
}

-- a step of the walk
pub walk_step : (before s here : ℕ) (rows : List ScopeRow) (from : Option ℕ) (first : List ScopeRow) (next : Option ℕ) → IsWalked before s (Some here) rows from first → next ≡ onward_from before s rows here
    → IsWalked before s next (altered closing_row rows (place_of before here)) from first
walk_step before s here rows from first next so is =
    let below : (b : ℕ) → next ≡ Some b → (before < b) × (b < here) = λ b found. onward_below before s rows here b so.linked so.within (sym is ∙ found) in
    record {
      linked = linked_on before rows (place_of before here) so.linked;
      within = within_on before rows (place_of before here) here next so.within below;
      left = step_left so.left.steps before s here rows from first next is (shorter here next before below) so.left.enough so.left.is;
    }

-- the walk goes down
pub walk_falls : (before s here : ℕ) (rows : List ScopeRow) (from : Option ℕ) (first : List ScopeRow) (next : Option ℕ) → IsWalked before s (Some here) rows from first → next ≡ onward_from before s rows here → walk_length next < here + 1
walk_falls before s here rows from first next so is =
    omega (arith, shorter here next before (λ b found. onward_below before s rows here b so.linked so.within (sym is ∙ found)))

-- the marks leave how many rows there are
pub marked_length : (n before s : ℕ) (next : Option ℕ) (rows : List ScopeRow) → length (marked_within n before s next rows) ≡ length rows
marked_length zero before s next rows = refl
marked_length (suc n) before s None rows = refl
marked_length (suc n) before s (Some here) rows =
    marked_length n before s (onward_from before s rows here) (altered closing_row rows (place_of before here)) ∙ altered_length closing_row rows (place_of before here)

-- so a scope that had a row has one
pub marked_numbered : (before s : ℕ) (next : Option ℕ) (rows : List ScopeRow) → IsNumbered before rows s → IsNumbered before (marked before s next rows) s
unfolding marked
marked_numbered before s next rows has = (has.0, omega (arith, has.1, marked_length (walk_length next) before s next rows))

-- a step of the walk that writes the row
pub step_written : (before s here : ℕ) (rows : List ScopeRow) (from : Option ℕ) (first : List ScopeRow) (next : Option ℕ) (row : ScopeRow) → IsWalked before s (Some here) rows from first → next ≡ onward_from before s rows here → row ≡ get_or rows (place_of before here) row
    → IsWalked before s next (altered (λ old. closing_row row) rows (place_of before here)) from first
step_written before s here rows from first next row so is read =
    subst (λ xs. IsWalked before s next xs from first) (sym (altered_read closing_row rows (place_of before here) row read)) (walk_step before s here rows from first next so is)

-- the walk ends at the scope
pub onward_end : (before s here : ℕ) (rows : List ScopeRow) → here ≡ s → None ≡ onward_from before s rows here
onward_end before s here rows same = ap (λ b. cond b None (below_of before rows here)) (sym (eq-eqb here s same))

-- and else goes on below
pub onward_on : (before s here : ℕ) (rows : List ScopeRow) (row : ScopeRow) → here ≢ s → IsNumbered before rows here → row ≡ get_or rows (place_of before here) row → row.below ≡ onward_from before s rows here
onward_on before s here rows row other has read =
    sym (ap (option_and_then (λ (r : ScopeRow). r.below)) (number_read before rows here row has read)) ∙ ap (λ b. cond b None (below_of before rows here)) (sym (ne_eqb here s other))

-- the walk goes down, by the row that is read
pub walk_shrinks : (before s here : ℕ) (rows : List ScopeRow) (from : Option ℕ) (first : List ScopeRow) (now : Option ℕ) (row : ScopeRow) → now ≡ Some here → IsWalked before s now rows from first → here ≢ s → row ≡ get_or rows (place_of before here) row
    → walk_length row.below < walk_length now
walk_shrinks before s here rows from first now row is so other read =
    let walked = subst (λ o. IsWalked before s o rows from first) is so in
    subst (λ o. walk_length row.below < walk_length o) (sym is) (walk_falls before s here rows from first row.below walked (onward_on before s here rows row other walked.within read))

-- ---- the walk over a list that goes by numbers

pub record IsWalk (s : ℕ) (next : Option ℕ) (rows : Entries ScopeRow) (from : Option ℕ) (first : Entries ScopeRow) : Type 0 where
  pub before : rows.before ≡ first.before
  pub spare : rows.spare ≡ first.spare
  pub walked : IsWalked rows.before s next rows.items from first.items

-- the marks are written when the walk is at its end
pub walk_written : (s : ℕ) (next : Option ℕ) (rows : Entries ScopeRow) (from : Option ℕ) (first : Entries ScopeRow) → next ≡ None → IsWalk s next rows from first → rows ≡ record first { items = marked first.before s from first.items }
walk_written s next rows from first none so =
    ap (λ xs. record rows { items = xs }) (walk_end rows.before s next rows.items from first.items none so.walked)
    ∙ (ap (λ b. record { before = b; items = marked b s from first.items; spare = rows.spare }) so.before ∙ ap (λ n. record first { items = marked first.before s from first.items; spare = n }) so.spare)
