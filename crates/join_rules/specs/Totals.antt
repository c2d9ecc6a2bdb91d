-- What a list of completions comes to, as far as the rules ask for it.
use Rattle.std.specs.Prelude.{ℕ, ℤ, ◌*◌, ◌+ℤ◌, ◌+◌, ◌^◌, ◌≤ℤ◌, ◌≤◌, Bool, List, None, Option, Some, count_by, false, if◌then◌else◌, int_le, length, nat_le, nat_lt, neg_ℤ, pos}
use Rattle.scope_rules.specs.declared.types.joiners.Policy.TheVariants.{All}
use Rattle.join_rules.specs.Words.{Any, AwaitAll, AwaitOk, Completion, FailuresAtLeast, Policy, Rule, SuccessesAtLeast, SumAtLeast, TASK_LIMIT, Until, find, has_failed, has_succeeded, option_or, summand_of_end, total_of}

pub record Totals : Type 0 where
  pub completions : ℕ
  pub failures : ℕ
  pub successes : ℕ
  pub first_failure : Option Completion
  pub first_success : Option Completion
  -- of the number values of successes
  pub sum : ℤ

-- the sum lies within what at most 65,536 numbers of the type `i64` can come to
pub record SumWithin (completions : ℕ) (sum : ℤ) : Type 0 where
  pub few : completions ≤ TASK_LIMIT
  pub low : neg_ℤ (pos (2 ^ 63 * completions)) ≤ℤ sum
  pub high : sum ≤ℤ pos (2 ^ 63 * completions)

unfoldable pub totals_of : List Completion → Totals
totals_of list = record {
  completions = length list;
  failures = count_by has_failed list;
  successes = count_by has_succeeded list;
  first_failure = find has_failed list;
  first_success = find has_succeeded list;
  sum = total_of list;
}

-- the totals with one completion more, the latest
unfoldable pub counted : Totals → Completion → Totals
counted t d = record {
  completions = t.completions + 1;
  failures = if has_failed d then t.failures + 1 else t.failures;
  successes = if has_succeeded d then t.successes + 1 else t.successes;
  first_failure = option_or t.first_failure (if has_failed d then Some d else None);
  first_success = option_or t.first_success (if has_succeeded d then Some d else None);
  sum = t.sum +ℤ summand_of_end d.end;
}

-- whether lists with these totals meet the rule
unfoldable pub totals_meet : Rule → Totals → Bool
totals_meet (FailuresAtLeast n) t = nat_le n t.failures
totals_meet (SuccessesAtLeast n) t = nat_le n t.successes
totals_meet (SumAtLeast n) t = int_le n t.sum

-- whether the joiner fires at the last completion of lists with these totals
unfoldable pub totals_fire : Policy → Totals → Bool
totals_fire All t = nat_lt 0 t.failures
totals_fire Any t = nat_lt 0 t.successes
totals_fire AwaitAll t = false
totals_fire AwaitOk t = nat_lt 0 t.failures
totals_fire (Until rule) t = totals_meet rule t
