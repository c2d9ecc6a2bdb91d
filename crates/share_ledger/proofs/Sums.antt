-- Sums of what tickets say of themselves.
use Rattle.std.proofs.Common.{ℕ, ◌≤◌, Bool, List, arith, false, length, take, true}
use Rattle.share_ledger.specs.{TicketValue, one_if, sum_by}
use Rattle.share_ledger.proofs.Words.{count_by-le-length, length-take}

-- a sum of ones and zeros is no more than their number
pub sum_bounded : (f : TicketValue → Bool) (xs : List TicketValue) (i : ℕ) → i ≤ length xs → sum_by (λ t. one_if (f t)) (take i xs) ≤ i
sum_bounded f xs i within = let all = count_by-le-length f (take i xs) in omega (arith, all, length-take i xs)

pub one_at_most : (b : Bool) → one_if b ≤ 1
one_at_most true = omega arith
one_at_most false = omega arith
