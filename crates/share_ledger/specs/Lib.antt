pub mod Views
pub mod Rule
pub mod Desks
pub mod Values
pub mod Names
pub mod Steps
pub mod Holders
pub mod Tickets
pub mod StepLaws
pub mod Named
pub mod Clocks
pub mod Words
unfoldable pub use Words.*
pub use Clocks.*
pub use Desks.*
pub use Holders.*
pub use Rule.*
pub use StepLaws.*
unfoldable pub use Steps.*
unfoldable pub use Tickets.*
pub use Values.*
pub use Views.*
