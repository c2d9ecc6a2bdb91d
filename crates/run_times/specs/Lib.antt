pub mod Landmarks
pub mod Stamps
pub mod Words
unfoldable pub use Words.*
unfoldable pub use Landmarks.*
unfoldable pub use Stamps.*
