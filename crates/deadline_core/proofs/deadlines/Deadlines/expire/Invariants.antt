use Rattle.std.proofs.Common.{ℕ, ◌≡◌, None, cond, eqb, take}
use Rattle.deadline_core.specs.{list_any}
use Rattle.std.specs.FinMap as map
use Rattle.deadline_core.proofs.deadlines.Deadlines.expire.Given as goal

-- the scopes so far are removed, and no other
abbrev pub invariant-loop-scope : goal.invariant-loop-scope
invariant-loop-scope l = (q : ℕ) → map.get l.self q ≡ cond (list_any (eqb q) (take l.scope-index l.scope-items)) None (map.get l.initial.self q)
