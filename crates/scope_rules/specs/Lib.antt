pub mod NameText
pub mod Names
pub mod Values
pub mod Ends
pub mod Refusals
pub mod Capacity
pub mod BasePairs
pub mod Origin
pub mod Fitting
pub mod Joining
pub mod Search
pub mod History
pub mod Chains
pub mod Earliest
pub mod Scopes
pub mod Completions
pub mod Cancels
pub mod Tasks
pub mod Answers
pub mod Texts
pub mod Outcomes
pub mod Bindings
pub mod StackSteps
pub mod Verdicts
pub mod Load
pub mod Checks
pub mod Table
pub mod Replies
pub mod Nests
pub mod Legal
pub mod Owed
pub mod Laws
pub mod OutcomeLaws
pub mod BindingLaws
pub mod LevelLaws
pub mod ClosingLaws
pub mod DeadlineLaws
pub mod Words
pub use Words.*
pub use Answers.*
pub use BindingLaws.*
unfoldable pub use Bindings.*
unfoldable pub use Cancels.*
unfoldable pub use Chains.*
unfoldable pub use Checks.*
pub use ClosingLaws.*
unfoldable pub use Completions.*
pub use DeadlineLaws.*
pub use Earliest.*
pub use Ends.*
pub use Fitting.*
unfoldable pub use History.*
unfoldable pub use Joining.*
pub use Laws.*
unfoldable pub use Legal.*
pub use LevelLaws.*
unfoldable pub use Load.*
unfoldable pub use NameText.*
pub use Names.*
pub use Origin.*
pub use OutcomeLaws.*
unfoldable pub use Outcomes.*
unfoldable pub use Owed.*
pub use Refusals.*
unfoldable pub use Replies.*
unfoldable pub use Scopes.*
unfoldable pub use Search.*
pub use StackSteps.*
unfoldable pub use Table.*
unfoldable pub use Tasks.*
unfoldable pub use Texts.*
pub use Values.*
unfoldable pub use Verdicts.*
