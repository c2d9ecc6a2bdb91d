pub mod Log
pub mod LocalForms
pub mod Counting
pub mod LogLaws
pub mod LogText
pub mod Previews
pub mod Folding
pub mod RetiringLaws
pub mod Dues
pub mod Words
unfoldable pub use Words.*
pub use Counting.*
pub use Dues.*
pub use Folding.*
unfoldable pub use LocalForms.*
unfoldable pub use Log.*
pub use LogLaws.*
unfoldable pub use LogText.*
unfoldable pub use Previews.*
pub use RetiringLaws.*
