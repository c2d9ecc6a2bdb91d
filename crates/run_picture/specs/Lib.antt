pub mod Arounds
pub mod Closings
pub mod Columns
pub mod Nodes
pub mod Rows
pub mod Shields
pub mod View
pub mod Words
pub use Arounds.*
unfoldable pub use Closings.*
pub use Columns.*
pub use Nodes.*
pub use Rows.*
pub use Shields.*
unfoldable pub use View.*
unfoldable pub use Words.*
