-- Chains of scopes, and what comes first along them. A tree of scopes is given by functions of a
-- scope's number: the scope outside it, its own cancel, its deadline. A history and a tree that is
-- kept speak by these same definitions.
use Rattle.std.specs.Prelude.{[], ℕ, ◌+◌, ◌<◌, ◌∷◌, ◌≡◌, ◌≤◌, List, None, Option, Some, if◌then◌else◌, is_some, min, nat_le, suc, zero}
use Rattle.scope_rules.specs.Words.{At, Effective, FirstCancel, Past}
use Rattle.scope_rules.specs.declared.types.answers.Effective.TheVariants.{Never}

-- each outer scope has a smaller number than what lies inside it
abbrev pub IsInward : (ℕ → Option ℕ) → Type 0
IsInward outer = (s p : ℕ) → outer s ≡ Some p → (1 ≤ p) × (p < s)

-- f of the scope, if there is one
abbrev pub onward : Option ℕ → (ℕ → List ℕ) → List ℕ
onward None f = []
onward (Some s) f = f s

-- at most n scopes, from s outwards
abbrev pub outwards : (ℕ → Option ℕ) → ℕ → ℕ → List ℕ
outwards outer zero s = []
outwards outer (suc n) s = s ∷ onward (outer s) (outwards outer n)

-- the scope, then the chain of the scope outside it. An outer scope has the smaller number, so at
-- most s lie outwards of s
unfoldable pub chain_by : (ℕ → Option ℕ) → ℕ → List ℕ
chain_by outer s = outwards outer (suc s) s

-- of a first cancel and one from farther out the earlier, and on a tie the nearer
abbrev pub nearer : Option FirstCancel → Option FirstCancel → Option FirstCancel
nearer None far = far
nearer (Some near) None = Some near
nearer (Some near) (Some far) = if nat_le near.place far.place then Some near else Some far

-- the earliest own cancel of the scopes, the first of them on a tie
abbrev pub earliest_on : (ℕ → Option FirstCancel) → List ℕ → Option FirstCancel
earliest_on own [] = None
earliest_on own (s ∷ ss) = nearer (own s) (earliest_on own ss)

-- the earliest own cancel on the chain of the scope, the nearest on a tie
unfoldable pub first_cancel_by : (ℕ → Option ℕ) → (ℕ → Option FirstCancel) → ℕ → Option FirstCancel
first_cancel_by outer own s = earliest_on own (chain_by outer s)

-- the lesser of two deadlines, if they are set
abbrev pub sooner : Option ℕ → Option ℕ → Option ℕ
sooner None other = other
sooner (Some d) None = Some d
sooner (Some d) (Some e) = Some (min d e)

-- the least deadline of the scopes
abbrev pub least_on : (ℕ → Option ℕ) → List ℕ → Option ℕ
least_on deadline [] = None
least_on deadline (s ∷ ss) = sooner (deadline s) (least_on deadline ss)

abbrev pub at_moment : Option ℕ → Effective
at_moment None = Never
at_moment (Some d) = At d

-- past, if the scope is first cancel, and else the least deadline on its chain
abbrev pub effective_by : (ℕ → Option ℕ) → (ℕ → Option FirstCancel) → (ℕ → Option ℕ) → ℕ → Effective
effective_by outer own deadline s = if is_some (first_cancel_by outer own s) then Past else at_moment (least_on deadline (chain_by outer s))

-- the first cancel, with so much added to its scope's number: as it is if others were numbered before
abbrev pub shifted : ℕ → FirstCancel → FirstCancel
shifted b c = record { place = c.place; cause = record { scope = b + c.cause.scope; kind = c.cause.kind } }
