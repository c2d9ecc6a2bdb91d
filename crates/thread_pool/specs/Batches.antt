-- What becomes of a batch of works.
use Rattle.std.specs.Prelude.{◌++◌, ◌≡◌, List, map}
use Rattle.thread_pool.specs.Words.{TicketValue}

-- the first of the works, each with its ticket, were taken, and the handles are theirs, one for one; the others are left
pub record SpawnsFirst {H W : Type 0} (first_of : H → TicketValue) (works left : List (TicketValue × W)) (handles : List H) : Type 0 where
  pub taken : List (TicketValue × W)
  pub are : works ≡ taken ++ left
  pub given : map first_of handles ≡ map (λ w. w.0) taken
