-- When a joiner fires.
use Rattle.std.specs.Prelude.{[], ℤ, ◌+ℤ◌, ◌∷◌, Bool, Err, List, Ok, count_by, false, int_le, is_err, is_ok, nat_le, pos}
use Rattle.scope_rules.specs.Words.{All, Any, AwaitAll, AwaitOk, Completion, FailuresAtLeast, Num, Policy, Rule, SuccessesAtLeast, SumAtLeast, Text, Until, list_any}
use Rattle.scope_rules.specs.Ends.{EndValue}

abbrev pub has_failed : Completion → Bool
has_failed d = is_err d.end

abbrev pub has_succeeded : Completion → Bool
has_succeeded d = is_ok d.end

-- what a completion adds to the sum: its number, if it succeeded with one
abbrev pub summand_of_end : EndValue → ℤ
summand_of_end (Ok (Num n)) = n
summand_of_end (Ok (Text t)) = pos 0
summand_of_end (Err f) = pos 0

-- the exact sum of the number values of successes
unfoldable pub total_of : List Completion → ℤ
total_of [] = pos 0
total_of (d ∷ ds) = summand_of_end d.end +ℤ total_of ds

-- the list of completions meets the rule
unfoldable pub meets : Rule → List Completion → Bool
meets (FailuresAtLeast n) ds = nat_le n (count_by has_failed ds)
meets (SuccessesAtLeast n) ds = nat_le n (count_by has_succeeded ds)
meets (SumAtLeast n) ds = int_le n (total_of ds)

-- the joiner fires at the last of these completions
unfoldable pub fires : Policy → List Completion → Bool
fires All ds = list_any has_failed ds
fires Any ds = list_any has_succeeded ds
fires AwaitAll ds = false
fires AwaitOk ds = list_any has_failed ds
fires (Until rule) ds = meets rule ds
