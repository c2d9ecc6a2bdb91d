pub mod Application
pub mod Colors
pub mod CommandLine
pub mod Delays
pub mod Faults
pub mod Jobs
pub mod Settings
pub mod Texts
pub mod Words
unfoldable pub use Words.*
unfoldable pub use Application.*
pub use Colors.*
unfoldable pub use CommandLine.*
unfoldable pub use Delays.*
pub use Faults.*
unfoldable pub use Jobs.*
unfoldable pub use Settings.*
pub use Texts.*
pub use Words.{Answers}
