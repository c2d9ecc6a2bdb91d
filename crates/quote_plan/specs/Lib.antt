pub mod Cutting
pub mod Plans
pub mod PlanLines
pub mod PlanReading
pub mod PlanWhys
pub mod PlanFaults
pub mod ReadSoFar
pub mod Passing
pub mod AnswerText
pub mod Allowed
pub mod Answering
pub mod Begun
pub mod Words
unfoldable pub use Words.*
unfoldable pub use Allowed.*
unfoldable pub use AnswerText.*
unfoldable pub use Answering.*
pub use Begun.*
pub use Cutting.*
pub use Passing.*
pub use PlanFaults.*
unfoldable pub use PlanLines.*
unfoldable pub use PlanReading.*
unfoldable pub use PlanWhys.*
pub use Plans.*
pub use ReadSoFar.*
pub use Words.{is_none}
