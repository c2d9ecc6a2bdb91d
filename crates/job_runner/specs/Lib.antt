pub mod Rooms
pub mod Marks
pub mod Forks
pub mod Endings
pub mod Reports
pub mod Readiness
pub mod Lists
pub mod Batches
pub mod Words
unfoldable pub use Words.*
pub use Batches.*
pub use Endings.*
pub use Forks.*
pub use Lists.*
pub use Marks.*
pub use Reports.*
