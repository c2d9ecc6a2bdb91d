pub mod Lending
pub mod Noting
pub mod Fits
pub mod Readings
pub mod Steps
pub mod Words
unfoldable pub use Words.*
unfoldable pub use Fits.*
pub use Lending.*
pub use Noting.*
pub use Readings.*
pub use Steps.*
