pub mod Offers
pub mod Going
pub mod Requests
pub mod Words
unfoldable pub use Words.*
pub use Going.*
pub use Offers.*
pub use Requests.*
