-- What is shown of some levels of a tree.
use Rattle.std.specs.Prelude.{ℕ, ◌&&◌, ◌+◌, ◌==◌, ◌≡◌, Bool, List, None, Option, Some, cond, count_by, false, nat_lt, not, true}
use Rattle.tree_dump.specs.Terms.{Forking, History, LEVEL_LIMIT, Legal, Limits, Opening, chain_by, closed, filter, flat_map, forking, level, list_any, opening, option_map_or, outermost, parent}
use Rattle.tree_dump.specs.{Ages.Clock, Once.IsTreeOf, Once.is_of_scope, Once.is_of_task, TextTree.Line, TextTree.OfScope, TextTree.OfTask, TextTree.line_text, TextTree.nested, TreeParts.part_text, TreeParts.stands, TreeParts.with_sums}
use Rattle.tree_dump.specs.declared.parts.TreePart.TheVariants as part

-- the line is of a scope whose level is below this one, or of a task of such a scope
abbrev pub is_within : History → ℕ → Line → Bool
is_within h below (OfScope depth i) = nat_lt (level h i.scope) below
is_within h below (OfTask depth k) = option_map_or (λ f. nat_lt (level h f.scope) below) (forking h k) false

-- scope t is s, or lies in it, however deep
abbrev pub lies_in : History → ℕ → ℕ → Bool
lies_in h s t = list_any (λ p. p == s) (chain_by (parent h) t)

-- the lines are what the whole tree has from scope s on: one for each scope that is s or lies in it and is not closed, one
-- for each task of such a scope, and none for any other. What is shown of so many levels are those of the scopes that lie
-- less than so many levels deeper than s, and of their tasks, in the same order
pub record ShowsLevels (c : Clock) (h : History) (levels s : ℕ) (place : Option ℕ) (lines : List Line) : Type 0 where
  pub whole : nested c h LEVEL_LIMIT 0 (Some s) ≡ flat_map (line_text c h) lines
  pub scopes : (t : ℕ) (o : Opening) → opening h t ≡ Some o → count_by (is_of_scope t) lines ≡ cond (not (closed h t) && lies_in h s t) 1 0
  pub tasks : (k : ℕ) (f : Forking) → forking h k ≡ Some f → count_by (is_of_task k) lines ≡ cond (not (closed h f.scope) && lies_in h s f.scope) 1 0
  pub shown : part_text c h (part.Levels levels place) ≡ with_sums c h (flat_map (line_text c h) (filter (is_within h (level h s + levels)) lines))

-- so it is in a legal history, from a scope that stands
abbrev pub LevelsShow : Type 0
LevelsShow = (L : Limits) (c : Clock) (h : History) (levels s : ℕ) → Legal L h → stands h s ≡ true → (lines : List Line) × ShowsLevels c h levels s (Some s) lines

-- and from main's outermost scope, if no other is named: its lines are those of the whole tree, so that each scope that is
-- not closed has one, and each of its tasks
abbrev pub RootLevelsShow : Type 0
RootLevelsShow = (L : Limits) (c : Clock) (h : History) (levels s : ℕ) → Legal L h → outermost h 0 ≡ Some s → (lines : List Line) × IsTreeOf c h lines × ShowsLevels c h levels s None lines
