-- What is written at the beginning of a close is what the step makes of the rows.
use Rattle.std.proofs.Common.{ℕ, ◌∙◌, ◌≡◌, Bool, Option, ap, get_or, not}
use Rattle.scope_rows.specs.{RowTable, ScopeRow, altered, close_begun, innermost_of, is_this, marked, place_of, violated_row}
use Rattle.scope_rows.proofs.Altering.{altered_read}

-- the marks, and whether the close is out of order
pub close_written : (v t : RowTable) (a s : ℕ) (from : Option ℕ) (row : ScopeRow) (first : Bool) → v ≡ t → from ≡ innermost_of t a → row ≡ get_or (marked v.scopes_before s from v.scopes) (place_of v.scopes_before s) row → first ≡ is_this from s
    → record v { scopes = altered (λ old. violated_row (not first) row) (marked v.scopes_before s from v.scopes) (place_of v.scopes_before s) } ≡ close_begun t a s
close_written v t a s from row first same is_from read is_first =
    ap (λ b. record v { scopes = altered (λ old. violated_row (not b) row) (marked v.scopes_before s from v.scopes) (place_of v.scopes_before s) }) is_first
    ∙ (ap (λ xs. record v { scopes = xs }) (altered_read (violated_row (not (is_this from s))) (marked v.scopes_before s from v.scopes) (place_of v.scopes_before s) row read)
    ∙ (ap (λ i. record v { scopes = altered (violated_row (not (is_this i s))) (marked v.scopes_before s i v.scopes) (place_of v.scopes_before s) }) is_from
    ∙ ap (λ (u : RowTable). record u { scopes = altered (violated_row (not (is_this (innermost_of t a) s))) (marked u.scopes_before s (innermost_of t a) u.scopes) (place_of u.scopes_before s) }) same))
