pub mod Passes
pub mod EventReplies
pub mod Queries
pub mod Entering
pub mod Ruled
pub mod Words
unfoldable pub use Words.*
pub use EventReplies.*
pub use Passes.*
pub use Queries.*
