-- What one event more, which opens no scope, makes of the table.
use Rattle.std.proofs.Common.{[], ℕ, ◌++◌, ◌+◌, ◌∙◌, ◌≡◌, ◌≤◌, Bool, List, None, Option, Some, ap, arith, cond, eqb, false, length, option_map, refl, slice_get, subst, sym, true}
use Rattle.scope_index.specs.{AreCancelsOf, CancelTable, Event, History, IsAccountOf, IsNodeOf, JoinerStanding, Legal, Limits, ScopeNode, StandsFor, cancel_at, changed, completion_of, completions, cons_option, followed, is_open}
use Rattle.scope_index.specs.{moment, opened_count}
use Rattle.scope_index.proofs.Words.{append-nil, completions_grow, count_push, opening_stays, row_changed}
use Rattle.cancel_tree.specs.Rows as rows

-- an event that completes no task leaves each account right
pub account_stays : (L : Limits) (h : History) (e : Event) (s : ℕ) (a : JoinerStanding) → Legal L h → completion_of (followed h e) s e ≡ None → IsAccountOf h s a → IsAccountOf (followed h e) s a
account_stays L h e s a legal none was =
    let same : completions (followed h e) s ≡ completions h s = completions_grow L h e s legal ∙ (ap (λ o. completions h s ++ cons_option o []) none ∙ append-nil (completions h s)) in
    record { opened = was.opened; is = opening_stays h e s was.opened was.is; policy = was.policy; stands = subst (StandsFor a) (sym same) was.stands }

-- an event that opens nothing leaves how many scopes were opened
pub opened_same : (h : History) (e : Event) → is_open e ≡ false → opened_count (followed h e) ≡ opened_count h
opened_same h e other =
    let grown = count_push is_open h.events e in
    let none : cond {A = ℕ} (is_open e) 1 0 ≡ 0 = ap (λ b. cond b 1 0) other in
    omega (arith, grown, none)

-- the table in which each row took a step
pub record HasStepped (old new : CancelTable) (step : ℕ → ScopeNode → ScopeNode) : Type 0 where
  pub before : new.before ≡ old.before
  pub length : length new.nodes ≡ length old.nodes
  pub rows : (n : ℕ) → rows.row new.nodes n ≡ option_map (step n) (rows.row old.nodes n)

some_map : {A B : Type 0} (f : A → B) (o : Option A) (y : B) → option_map f o ≡ Some y → (x : A) × (o ≡ Some x) × (y ≡ f x)
some_map f None y is = absurd cc
some_map f (Some x) y is = (x, refl, cc)

-- the table is the history's with the event, if each row is, and each account
pub table_next : (h : History) (e : Event) (old new : CancelTable) (step : ℕ → ScopeNode → ScopeNode) → AreCancelsOf h old → is_open e ≡ false → HasStepped old new step
    → new.moment ≡ moment (followed h e)
    → length new.accounts ≡ length old.accounts
    → ((n : ℕ) (t : ScopeNode) → rows.row old.nodes n ≡ Some t → IsNodeOf h old.before (old.before + n) t → IsNodeOf (followed h e) old.before (old.before + n) (step n t))
    → ((i : ℕ) (a : JoinerStanding) → slice_get new.accounts i ≡ Some a → IsAccountOf (followed h e) (old.before + 1 + i) a)
    → AreCancelsOf (followed h e) new
table_next h e old new step was other stepped now same each counted = record {
  numbered = stepped.before ∙ was.numbered;
  moment = now;
  count = stepped.length ∙ (was.count ∙ sym (opened_same h e other));
  counted = same ∙ (was.counted ∙ sym (opened_same h e other));
  rows = λ n row is.
      let from = some_map (step n) (rows.row old.nodes n) row (sym (stepped.rows n) ∙ is) in
      subst (λ b. IsNodeOf (followed h e) b (b + n) row) (sym stepped.before)
      (subst (IsNodeOf (followed h e) old.before (old.before + n)) (sym from.2) (each n from.0 from.1 (was.rows n from.0 from.1)));
  accounts = λ i a is. subst (λ b. IsAccountOf (followed h e) (b + 1 + i) a) (sym stepped.before) (counted i a is);
}

-- the accounts of an event that completes nothing
pub accounts_stay : (L : Limits) (h : History) (e : Event) (old : CancelTable) → Legal L h → AreCancelsOf h old → ((s : ℕ) → completion_of (followed h e) s e ≡ None)
    → (i : ℕ) (a : JoinerStanding) → slice_get old.accounts i ≡ Some a → IsAccountOf (followed h e) (old.before + 1 + i) a
accounts_stay L h e old legal was none i a is = account_stays L h e (old.before + 1 + i) a legal (none (old.before + 1 + i)) (was.accounts i a is)

-- one row changed
abbrev pub at_row : ℕ → (ScopeNode → ScopeNode) → ℕ → ScopeNode → ScopeNode
at_row n f m t = cond (eqb m n) (f t) t

either_row : (b : Bool) (f : ScopeNode → ScopeNode) (r : Option ScopeNode) → cond b (option_map f r) r ≡ option_map (λ t. cond b (f t) t) r
either_row true f None = refl
either_row false f None = refl
either_row true f (Some t) = refl
either_row false f (Some t) = refl

pub changed_rows : (nodes : List ScopeNode) (n : ℕ) (f : ScopeNode → ScopeNode) → 1 ≤ n → (m : ℕ) → rows.row (changed nodes n f) m ≡ option_map (at_row n f m) (rows.row nodes m)
changed_rows nodes n f first m = row_changed f nodes n m first ∙ either_row (eqb m n) f (rows.row nodes m)
