-- Tickets that came back, one for each that was given.
use Rattle.std.proofs.Common.{[], ◌++◌, ◌∷◌, List}
use Rattle.thread_pool.specs.{AreReturns, Returns.Returns, TableId, TicketValue}

-- one more came back
pub one_returned : (name : TableId) (firsts lasts : List TicketValue) (first last : TicketValue) → AreReturns name firsts lasts → Returns name first last → AreReturns name (firsts ++ first ∷ []) (lasts ++ last ∷ [])
one_returned name [] [] first last are back = (back, tt)
one_returned name [] (l ∷ lasts) first last are back = absurd are
one_returned name (f ∷ firsts) [] first last are back = absurd are
one_returned name (f ∷ firsts) (l ∷ lasts) first last are back = (are.0, one_returned name firsts lasts first last are.1 back)
