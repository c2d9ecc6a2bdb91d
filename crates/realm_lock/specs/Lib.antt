pub mod Openings
pub mod Waits
pub mod Endings
pub mod Cells
pub mod Marked
pub mod MarkLaws
pub mod Looks
pub mod Sleeps
pub mod Turns
pub mod Batches
pub mod Words
unfoldable pub use Words.*
pub use Batches.{ForksAll, ForksEach, ForksNext, ForksSome, ForksUpTo}
pub use Cells.*
pub use Looks.*
pub use MarkLaws.*
pub use Marked.*
pub use Openings.*
pub use Sleeps.*
pub use Turns.*
pub use Waits.*
