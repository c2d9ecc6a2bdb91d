pub mod Replying
pub mod Cutting
pub mod Sessions
pub mod Tallies
pub mod KeptLines
pub mod ByBytes
pub mod Books
pub mod Streams
pub mod Running
pub mod Retiring
pub mod Terms
unfoldable pub use Terms.*
pub use Books.*
unfoldable pub use ByBytes.*
unfoldable pub use Cutting.*
unfoldable pub use KeptLines.*
unfoldable pub use Replying.*
unfoldable pub use Retiring.*
pub use Running.*
unfoldable pub use Sessions.*
pub use Streams.*
unfoldable pub use Tallies.*
