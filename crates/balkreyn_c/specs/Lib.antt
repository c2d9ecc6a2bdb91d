pub mod Owning
pub mod Timed
pub mod Numbers
pub mod Resting
pub mod Acting
pub mod Batches
pub mod Asking
pub mod Around
pub mod Opening
pub mod Named
pub mod Endings
pub mod Joining
pub mod Books
pub mod Wanting
pub mod Texts
pub mod Timing
pub mod Doors
pub mod Words
unfoldable pub use Words.*
pub use Acting.{Acts}
pub use Around.*
pub use Asking.*
pub use Batches.{ActsMany, Batched, TriesAt, answer_at}
unfoldable pub use Batches.{Repeats}
pub use Books.*
pub use Doors.{DidPerform, DoesLine, Lines, Stopped, not_done}
pub use Endings.*
pub use Joining.{AnswersBare, Joins, LetsGo, ListsOutcome, TellsOutcome, list_in, list_number, of_state, of_value}
pub use Named.*
pub use Numbers.*
pub use Opening.*
pub use Owning.*
pub use Resting.*
pub use Texts.{OutcomeLine, Shows, TellsLine, Writes, WritesOrNot, WritesReply, outcome_line, reply_line}
pub use Timed.*
pub use Timing.*
pub use Wanting.*
