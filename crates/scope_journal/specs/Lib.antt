pub mod Codes
pub mod EventTable
pub mod JournalKeeps
pub mod Places
pub mod TrailTable
pub mod TrailsOf
pub mod TrailLaws
pub mod Marks
pub mod Words
unfoldable pub use Words.*
pub use Codes.*
pub use EventTable.*
pub use JournalKeeps.*
pub use Marks.*
unfoldable pub use Places.*
pub use TrailLaws.*
pub use TrailTable.{HasEventRoom, HasTrail, back, if_back, last_in, no_trails, trail_of, trail_to, with_last, with_open}
unfoldable pub use TrailTable.{trail_in}
pub use TrailsOf.*
