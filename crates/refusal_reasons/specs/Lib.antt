pub mod Places
pub mod Reasons
pub mod Fits
pub mod Truth
pub mod Faults
pub mod LinePlaces
pub mod FirstWrong
pub mod Words
unfoldable pub use Words.*
unfoldable pub use Faults.*
pub use FirstWrong.*
unfoldable pub use Fits.*
unfoldable pub use LinePlaces.*
unfoldable pub use Places.*
unfoldable pub use Reasons.*
pub use Truth.*
