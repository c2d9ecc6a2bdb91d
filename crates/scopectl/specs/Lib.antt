pub mod Texts
pub mod Saying
pub mod Program
pub mod Naming
pub mod Acting
pub mod Runs
pub mod Turns
pub mod Words
unfoldable pub use Words.*
pub use Acting.*
pub use Naming.*
unfoldable pub use Program.*
pub use Runs.*
pub use Saying.*
pub use Texts.*
pub use Turns.*
