pub mod Cores
pub mod Calls
pub mod Telling
pub mod Tasks
pub mod Views
pub mod CallLaws
pub mod Endings
pub mod Ends
pub mod Waiting
pub mod Reports
pub mod Tickets
pub mod Runs
pub mod Closes
pub mod Words
unfoldable pub use Words.*
pub use CallLaws.*
pub use Calls.{Accepted, Added, DidOrMemory, DidPerform, DidRecord, Does, DoesOrMemory, FoundSo, HasLooked, Looked, OutOfMemory, Performed, Records, Refused, SeesMore, TicketAdded, TicketLooked, done, history_seen, step_check}
pub use Closes.*
pub use Cores.*
pub use Endings.*
pub use Ends.*
pub use Reports.{ArePrepared, AreReported, IsPrepared, IsReported, numbers, with_end}
pub use Runs.*
pub use Tasks.*
pub use Telling.{SeesAll, Stepped, TicketStepped, told}
unfoldable pub use Tickets.*
pub use Views.*
pub use Waiting.*
