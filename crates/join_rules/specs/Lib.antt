pub mod Entries
pub mod Joiners
pub mod Totals
pub mod JoinerStanding
pub mod Progress
pub mod Words
unfoldable pub use Words.*
pub use Entries.*
pub use JoinerStanding.*
unfoldable pub use Totals.*
