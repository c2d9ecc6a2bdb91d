-- What a tree keeps beside its nodes.
use Rattle.std.specs.Prelude.{ℕ, ◌-◌, ◌<◌, ◌≡◌, List, None, Option, Some, length, slice_get, suc}
use Rattle.std.proofs.Common.{get_or, set}
use Rattle.cancel_tree.specs.Words.{FirstCancel, IsInward, Links, ScopeNode}
use Rattle.cancel_tree.specs.{Reach.last_inner, Rows.cancel_of, Rows.level_of, Rows.outer_of, Rows.own_of, Rows.parent_of}

-- the links of a scope lead to the last scope inside it, and to the one before it in its outer scope
pub record IsLinked (outer : ℕ → Option ℕ) (links : List Links) : Type 0 where
  pub first : (i : ℕ) (l : Links) → slice_get links i ≡ Some l → l.first_inner ≡ last_inner outer (suc i) (length links)
  pub next : (i : ℕ) (l : Links) (s : ℕ) → slice_get links i ≡ Some l → outer (suc i) ≡ Some s → l.next_inner ≡ last_inner outer s i

-- the columns beside what was told agree with it
pub record AreColumns (nodes : List ScopeNode) (links : List Links) (cancels : List (Option FirstCancel)) : Type 0 where
  pub inward : IsInward (parent_of nodes)
  pub rows : length links ≡ length nodes
  pub columns : length cancels ≡ length nodes
  pub linked : IsLinked (outer_of nodes) links
  pub levels : (i : ℕ) (l : Links) → slice_get links i ≡ Some l → l.level ≡ level_of nodes (suc i)
  pub named : (s : ℕ) (c : FirstCancel) → own_of nodes s ≡ Some c → c.cause.scope ≡ s
  pub first_cancel : (i : ℕ) → i < length nodes → slice_get cancels i ≡ Some (cancel_of nodes (suc i))

-- the links, if the scope outside, when there is one, leads to the scope. `none` is read if there are none
abbrev pub led : List Links → Option ℕ → ℕ → Links → List Links
led links None s none = links
led links (Some o) s none = set links (o - 1) (record (get_or links (o - 1) none) { first_inner = Some s })

abbrev pub AreLed : List Links → Option ℕ → ℕ → List Links → Type 0
AreLed old o s new = (none : Links) → new ≡ led old o s none
