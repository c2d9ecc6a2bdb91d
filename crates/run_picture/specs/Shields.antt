-- The shields that held off a cancel, in the words of the rules.
use Rattle.std.specs.Prelude.{◌&&◌, ◌+◌, ◌<◌, ◌≡◌}
use Rattle.run_picture.specs.Words.{ℕ, Bool, Cause, History, Opening, ScopeRow, around, before, cancellation, cancelled_before, closed, false, nat_lt, not, opening, option_map_or, true}
use Rattle.run_picture.specs.Words.{Some}

-- the shield of scope s holds at place i: the scope around it becomes cancelled there, by that cause, and s, which has a
-- shield, was opened before, is not closed, and is not cancelled by then
pub record HoldsAgainst (h : History) (s : ℕ) (c : Cause) (i : ℕ) : Type 0 where
  pub opened : Opening
  pub opened_is : opening h s ≡ Some opened
  pub shielded : opened.options.shield ≡ true
  pub earlier : opened.place < i
  pub unclosed : closed (before h i) s ≡ false
  pub goes_on : cancelled_before h s (i + 1) ≡ false
  pub outside : ℕ
  pub around_is : around h opened ≡ Some outside
  pub cancel : cancellation h outside ≡ Some (i, c)

-- by its row the scope stood at place i and went on
abbrev pub goes_on : ScopeRow → ℕ → Bool
goes_on row i = nat_lt row.opened.place i && (not (option_map_or (λ at. nat_lt at i) row.closed false) && not (option_map_or (λ c. nat_lt c.0 (i + 1)) row.cancelled false))
