-- What the definitions of this crate take from the libraries below and from the types of its code, from one place.
pub use Rattle.std.specs.{List.All, List.Sorted.IsPermutation, List.filter, List.remove, VecDeque.deque_capacity, VecDeque.deque_len}
pub use Rattle.atomic_table.specs.Seated.{TableId}
pub use Rattle.share_ledger.specs.{Tickets.finished_in, Values.TicketValue}
pub use Rattle.thread_pool.specs.declared.state.{Answer.Answer, Next.Next}
