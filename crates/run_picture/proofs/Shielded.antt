-- What is read of a scope's row and of the row around it says where its shield held.
use Rattle.std.specs.Prelude.{◌&&◌, ◌+◌, ◌-◌, ◌<◌, ◌≡◌}
use Rattle.run_picture.specs.{ℕ, AreColumnsOf, Bool, Cause, FirstCancel, History, HoldsAgainst, IsScopeRow, None, Opening, Option, ScopeRow, Some, around, before, cancellation, cancelled_at}
use Rattle.run_picture.specs.{cancelled_before, cause, closed, false, first_cancel, goes_on, is_some, length, max, nat_lt, not, opening, option_and_then, option_map, option_map_or, parent, scope_at}
use Rattle.run_picture.specs.{cond, slice_get, true}
use Rattle.run_picture.specs.Words.{Columns}
use Rattle.run_picture.proofs.Lemmas.{◌∙◌, and_parts, ap, arith, closed_at_place, index_of, lt-ltb, ltb-true, not-true, refl, subst, sym}
use Rattle.run_picture.proofs.{Existing.entry_there, Reaching.cancelled_within}

-- ---- rows by number

-- the row of a scope is found by its number
record HasRow (columns : Columns) (h : History) (s : ℕ) : Type 0 where
  row : ScopeRow
  at : scope_at columns s ≡ Some row
  is : IsScopeRow h s row

row_there : (columns : Columns) (h : History) (s : ℕ) → AreColumnsOf columns h → is_some (opening h s) ≡ true → HasRow columns h s
row_there columns h s are opened =
    let it = index_of h s opened in
    let entry = entry_there columns.scopes.items it.0 (omega (arith, it.1, are.scopes.long)) in
    let place : s - columns.scopes_before - 1 ≡ it.0 = omega (arith, it.2, are.scopes_before) in
    let later : nat_lt columns.scopes_before s ≡ true = lt-ltb columns.scopes_before s (omega (arith, it.2, are.scopes_before)) in
    record {
      row = entry.0;
      at = ap (λ b. cond b (slice_get columns.scopes.items (s - columns.scopes_before - 1)) None) later ∙ (ap (slice_get columns.scopes.items) place ∙ entry.1);
      is = subst (λ k. IsScopeRow h k entry.0) it.2 (are.scopes.each it.0 entry.0 entry.1);
    }

row_is : (columns : Columns) (h : History) (s : ℕ) (row : ScopeRow) → AreColumnsOf columns h → scope_at columns s ≡ Some row → IsScopeRow h s row
row_is columns h s row are at = by (nat_lt columns.scopes_before s) refl at
  where
    by : (b : Bool) → nat_lt columns.scopes_before s ≡ b → cond b (slice_get columns.scopes.items (s - columns.scopes_before - 1)) None ≡ Some row → IsScopeRow h s row
    by false later found = absurd cc
    by true later found =
        let less = ltb-true columns.scopes_before s later in
        let number : h.base.scopes + 1 + (s - columns.scopes_before - 1) ≡ s = omega (arith, less, are.scopes_before) in
        subst (λ k. IsScopeRow h k row) number (are.scopes.each (s - columns.scopes_before - 1) row found)

-- ---- cancels

abbrev placed_by : Option FirstCancel → Option Opening → Option ℕ
placed_by c o = option_and_then (λ p. option_map (λ x. max p.place x.place) c) o

abbrev cancel_by : Option FirstCancel → Option Opening → Option (ℕ × Cause)
cancel_by c o = option_and_then {U = ℕ × Cause} (λ at. option_map (λ x. (at, x)) (option_map (λ x. x.cause) c)) (placed_by c o)

before_by : (c : Option FirstCancel) (o : Option Opening) (n : ℕ) → option_map_or (λ at. nat_lt at n) (placed_by c o) false ≡ option_map_or (λ (x : ℕ × Cause). nat_lt x.0 n) (cancel_by c o) false
before_by None None n = refl
before_by None (Some o) n = refl
before_by (Some c) None n = refl
before_by (Some c) (Some o) n = refl

opened_by : (c : Option FirstCancel) (o : Option Opening) → is_some (cancel_by c o) ≡ true → is_some o ≡ true
opened_by c None some = absurd cc
opened_by c (Some o) some = refl

before_is : (h : History) (s n : ℕ) → cancelled_before h s n ≡ option_map_or (λ (x : ℕ × Cause). nat_lt x.0 n) (cancellation h s) false
unfolding cancelled_before cancelled_at cause
before_is h s n = before_by (first_cancel h s) (opening h s) n

cancelled_opened : (h : History) (s : ℕ) → is_some (cancellation h s) ≡ true → is_some (opening h s) ≡ true
unfolding cancelled_at cause
cancelled_opened h s some = opened_by (first_cancel h s) (opening h s) some

-- ---- shields

parent_is : (h : History) (s : ℕ) (o : Opening) → opening h s ≡ Some o → parent h s ≡ around h o
unfolding parent
parent_is h s o is = ap (option_and_then (around h)) is

opened_same : (h : History) (s : ℕ) (a b : Opening) → opening h s ≡ Some a → opening h s ≡ Some b → a ≡ b
opened_same h s a b one other = let both : Some a ≡ Some b = sym one ∙ other in cc

-- by its row a scope is unclosed and uncancelled where it is so by the rules
closed_by : (h : History) (s i : ℕ) (row : ScopeRow) → IsScopeRow h s row → i < length h.events → option_map_or (λ at. nat_lt at i) row.closed false ≡ closed (before h i) s
closed_by h s i row is within = ap (λ (o : Option ℕ). option_map_or (λ at. nat_lt at i) o false) is.closed ∙ sym (closed_at_place h s i (omega (arith, within)))

cancelled_by : (h : History) (s i : ℕ) (row : ScopeRow) → IsScopeRow h s row → option_map_or (λ (c : ℕ × Cause). nat_lt c.0 (i + 1)) row.cancelled false ≡ cancelled_before h s (i + 1)
cancelled_by h s i row is = ap (λ (o : Option (ℕ × Cause)). option_map_or (λ c. nat_lt c.0 (i + 1)) o false) is.cancelled ∙ sym (before_is h s (i + 1))

pub held_so : (columns : Columns) (h : History) (s p i : ℕ) (c : Cause) (row outside : ScopeRow) → AreColumnsOf columns h → IsScopeRow h s row → row.opened.options.shield ≡ true → row.parent ≡ Some p → scope_at columns p ≡ Some outside → outside.cancelled ≡ Some (i, c) → goes_on row i ≡ true → HoldsAgainst h s c i
held_so columns h s p i c row outside are is shield up at cancel goes =
    let cancelled : cancellation h p ≡ Some (i, c) = sym (row_is columns h p outside are at).cancelled ∙ cancel in
    let within = cancelled_within h p i c cancelled in
    let stood = and_parts (nat_lt row.opened.place i) (not (option_map_or (λ at. nat_lt at i) row.closed false) && not (option_map_or (λ x. nat_lt x.0 (i + 1)) row.cancelled false)) goes in
    let went = and_parts (not (option_map_or (λ at. nat_lt at i) row.closed false)) (not (option_map_or (λ x. nat_lt x.0 (i + 1)) row.cancelled false)) stood.1 in
    record {
      opened = row.opened;
      opened_is = is.opened;
      shielded = shield;
      earlier = ltb-true row.opened.place i stood.0;
      unclosed = sym (closed_by h s i row is within) ∙ not-true (option_map_or (λ at. nat_lt at i) row.closed false) went.0;
      goes_on = sym (cancelled_by h s i row is) ∙ not-true (option_map_or (λ (x : ℕ × Cause). nat_lt x.0 (i + 1)) row.cancelled false) went.1;
      outside = p;
      around_is = sym (parent_is h s row.opened is.opened) ∙ (sym is.parent ∙ up);
      cancel = cancelled;
    }

-- what is read of the rows of a scope whose shield held
pub record IsHeld (columns : Columns) (row : ScopeRow) (c : Cause) (i : ℕ) : Type 0 where
  pub shielded : row.opened.options.shield ≡ true
  pub number : ℕ
  pub up : row.parent ≡ Some number
  pub outside : ScopeRow
  pub at : scope_at columns number ≡ Some outside
  pub cancel : outside.cancelled ≡ Some (i, c)
  pub goes : goes_on row i ≡ true

pub held_all : (columns : Columns) (h : History) (s i : ℕ) (c : Cause) (row : ScopeRow) → AreColumnsOf columns h → IsScopeRow h s row → HoldsAgainst h s c i → IsHeld columns row c i
held_all columns h s i c row are is it =
    let same = opened_same h s it.opened row.opened it.opened_is is.opened in
    let there = row_there columns h it.outside are (cancelled_opened h it.outside (ap is_some it.cancel)) in
    let within = cancelled_within h it.outside i c it.cancel in
    let early : nat_lt row.opened.place i ≡ true = lt-ltb row.opened.place i (subst (λ (o : Opening). o.place < i) same it.earlier) in
    let open_still : option_map_or (λ at. nat_lt at i) row.closed false ≡ false = closed_by h s i row is within ∙ it.unclosed in
    let live_still : option_map_or (λ (x : ℕ × Cause). nat_lt x.0 (i + 1)) row.cancelled false ≡ false = cancelled_by h s i row is ∙ it.goes_on in
    record {
      shielded = subst (λ (o : Opening). o.options.shield ≡ true) same it.shielded;
      number = it.outside;
      up = is.parent ∙ (parent_is h s it.opened it.opened_is ∙ it.around_is);
      outside = there.row;
      at = there.at;
      cancel = there.is.cancelled ∙ it.cancel;
      goes = rw early (rw open_still (rw live_still refl));
    }

-- the row around such a scope, as it is read
module _ (columns : Columns) (row : ScopeRow) (c : Cause) (i : ℕ) (it : IsHeld columns row c i) (p : ℕ) (up : row.parent ≡ Some p) (found : Option ScopeRow) (at : found ≡ scope_at columns p) where
  pub outside_same : found ≡ Some it.outside
  outside_same =
      let same : p ≡ it.number = let both : Some p ≡ Some it.number = sym up ∙ it.up in cc in
      at ∙ (ap (scope_at columns) same ∙ it.at)

  pub cancel_same : (outside : ScopeRow) → found ≡ Some outside → outside.cancelled ≡ Some (i, c)
  cancel_same outside is =
      let same : outside ≡ it.outside = let both : Some outside ≡ Some it.outside = sym is ∙ outside_same in cc in
      ap (λ (r : ScopeRow). r.cancelled) same ∙ it.cancel
