pub mod Anew
pub mod Journals
pub mod Script
pub mod Timed
pub mod Words
unfoldable pub use Words.*
pub use Anew.*
pub use Journals.*
unfoldable pub use Script.*
unfoldable pub use Timed.*
