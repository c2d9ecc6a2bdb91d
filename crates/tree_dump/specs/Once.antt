-- That the tree shows each scope and each task once.
use Rattle.std.specs.Prelude.{ℕ, ◌++◌, ◌==◌, ◌≡◌, Bool, List, Some, cond, count_by, false}
use Rattle.tree_dump.specs.Terms.{Forking, History, Legal, Limits, Opening, closed, flat_map, forking, opening}
use Rattle.tree_dump.specs.{Ages.Clock, TextTree.Line, TextTree.OfScope, TextTree.OfTask, TextTree.line_text, TextTree.tree_by, TextTree.tree_lines}

abbrev pub is_of_scope : ℕ → Line → Bool
is_of_scope s (OfScope depth i) = i.scope == s
is_of_scope s (OfTask depth k) = false

abbrev pub is_of_task : ℕ → Line → Bool
is_of_task k (OfScope depth i) = false
is_of_task k (OfTask depth x) = x == k

-- the lines are what the tree is made of, behind its first line: of each scope that is not closed there is one, and of
-- each other none; and of each task there is one, if its scope is not closed, and else none
pub record IsTreeOf (c : Clock) (h : History) (lines : List Line) : Type 0 where
  pub first : List ℕ
  pub text : tree_by c h ≡ first ++ flat_map (line_text c h) lines
  pub scopes : (s : ℕ) (o : Opening) → opening h s ≡ Some o → count_by (is_of_scope s) lines ≡ cond (closed h s) 0 1
  pub tasks : (k : ℕ) (f : Forking) → forking h k ≡ Some f → count_by (is_of_task k) lines ≡ cond (closed h f.scope) 0 1

-- so it is of the lines of a legal history's tree
abbrev pub TreeShowsEachOnce : Type 0
TreeShowsEachOnce = (L : Limits) (c : Clock) (h : History) → Legal L h → IsTreeOf c h (tree_lines h)
