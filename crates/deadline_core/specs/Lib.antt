pub mod Moments
pub mod Ordered
pub mod Words
unfoldable pub use Words.*
pub use Moments.*
pub use Ordered.*
