pub mod Rows
pub mod Reach
pub mod Columns
pub mod Order
pub mod CancelOrder
pub mod Lending
pub mod Words
unfoldable pub use Words.*
pub use CancelOrder.*
pub use Columns.*
pub use Lending.*
pub use Order.*
unfoldable pub use Reach.*
pub use Rows.*
