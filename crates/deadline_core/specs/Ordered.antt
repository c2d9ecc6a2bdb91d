-- How the index keeps deadlines: in order, and beside that by scope.
use Rattle.std.specs.Prelude.{ℕ, ◌==◌, ◌≡◌, Bool, IsTrue, List, None, Option, Some, false, map, nat_le}
use Rattle.std.specs.{List.take_while, Ordering.nat_cmp, Ordering.ordering_then, declared.cmp.Ordering.Ordering}
use Rattle.deadline_core.specs.Moments.{Moments}
use Rattle.std.specs.BTreeMap as tree
use Rattle.std.specs.BTreeSet as sorted
use Rattle.std.specs.FinMap as fin

-- a deadline and a scope, in order of the deadlines and then of the scopes
abbrev pub pair_cmp : (p q : ℕ × ℕ) → Ordering
pair_cmp p q = ordering_then (nat_cmp p.0 q.0) (nat_cmp p.1 q.1)

-- whether the deadline is the one that was found
abbrev pub is_moment : Option ℕ → ℕ → Bool
is_moment None deadline = false
is_moment (Some found) deadline = found == deadline

-- the map that a list of deadlines with their scopes stands for
abbrev pub moments_in : List (ℕ × ℕ) → Moments
moments_in pairs = fin.from_entries (map (λ p. (p.1, p.0)) pairs)

-- no scope is listed with two deadlines
pub record HasOneOfEach (order : sorted.BTreeSet (ℕ × ℕ)) : Type 0 where
  pub one : (deadline other scope : ℕ) → IsTrue (sorted.contains pair_cmp order (deadline, scope)) → IsTrue (sorted.contains pair_cmp order (other, scope)) → deadline ≡ other

-- the order has the deadline of each scope
pub record IsOrderOf (moments : tree.BTreeMap ℕ ℕ) (order : Moments) : Type 0 where
  pub same : (scope : ℕ) → tree.get nat_cmp moments scope ≡ fin.get order scope

-- the scopes of the first pairs whose deadlines are at or before the moment
abbrev pub scopes_up_to : ℕ → List (ℕ × ℕ) → List ℕ
scopes_up_to now pairs = map (λ p. p.1) (take_while (λ p. nat_le p.0 now) pairs)
