-- The lists of completions that a caller's closure is asked about, and what it has to answer.
use Rattle.std.specs.Prelude.{◌<◌, ◌^◌, ◌≡◌, ◌≤◌, Bool, FitsSigned, List, length}
use Rattle.std.specs.List.{All}
use Rattle.join_rules.specs.Words.{Completion, Rule, TASK_LIMIT, meets, summand_of_end, w64}
use denote.Ref.{Bor}

-- the numbers of a completion fit their types
pub record EntryFits (d : Completion) : Type 0 where
  pub task : d.task < 2 ^ 32
  pub number : FitsSigned w64 (summand_of_end d.end)

-- a list that a closure may be shown: at most 65,536 completions, whose numbers fit their types
pub record MayBeAsked (list : List Completion) : Type 0 where
  pub short : length list ≤ TASK_LIMIT
  pub fits : All EntryFits list

-- whatever is answered of a list that may be shown, it is whether the list meets the rule
abbrev pub AgreesWith : Rule → (Bor (List Completion) → Bool → Type 0) → Type 0
AgreesWith rule MayAnswer =
    (shown : Bor (List Completion)) (answer : Bool) → MayBeAsked shown.now → MayAnswer shown answer → answer ≡ meets rule shown.now

-- the closure may be called on every list that it may be shown
abbrev pub IsCallableOnShown : (Bor (List Completion) → Type 0) → Type 0
IsCallableOnShown MayCall = (shown : Bor (List Completion)) → MayBeAsked shown.now → MayCall shown
