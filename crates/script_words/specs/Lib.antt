pub mod Steps
pub mod Fields
pub mod Numbers
pub mod Words
pub mod Joiners
pub mod Openings
pub mod Rows
pub mod Forms
pub mod Written
pub mod Lines
pub mod NumberLaws
pub mod Spelling
pub mod Called
pub mod ReplyText
pub mod Printable
pub mod Near
pub mod Terms
unfoldable pub use Terms.*
pub use Called.*
unfoldable pub use Fields.*
unfoldable pub use Forms.*
unfoldable pub use Joiners.*
unfoldable pub use Lines.{command_said, fields_said, line_said}
unfoldable pub use Near.*
pub use NumberLaws.*
unfoldable pub use Numbers.*
unfoldable pub use Openings.*
pub use Rows.*
pub use Printable.*
unfoldable pub use ReplyText.*
unfoldable pub use Spelling.*
pub use Steps.*
unfoldable pub use Words.*
pub use Written.*
