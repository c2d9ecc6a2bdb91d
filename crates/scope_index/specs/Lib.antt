pub mod IndexTables
pub mod Events
pub mod Completing
pub mod Closing
pub mod Lending
pub mod CancelTables
pub mod CancelsOf
pub mod Coming
pub mod Lent
pub mod CancelLending
pub mod Answers
pub mod Bare
pub mod ForkTable
pub mod ForksOf
pub mod Words
unfoldable pub use Words.*
pub use Answers.*
pub use Bare.*
pub use CancelLending.*
pub use CancelTables.*
pub use CancelsOf.*
pub use Closing.*
pub use Coming.*
pub use Completing.*
pub use Events.*
pub use ForkTable.{ForkedTasks, HasForkRoom, HasForks, no_forks, no_lists, roomy, tasks_in, with_forks, with_open, with_task}
pub use ForksOf.*
pub use IndexTables.{AreAlike, HasRoomForEnds, HasRoomToFork, IndexTable, IsIndexOf, all_counts, forks_of}
pub use Lending.*
pub use Lent.*
