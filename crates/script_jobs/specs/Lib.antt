pub mod Counts
pub mod Comparing
pub mod Begun
pub mod Between
pub mod Noting
pub mod Jobs
pub mod Passed
pub mod Whys
pub mod Scripts
pub mod Prompting
pub mod Fits
pub mod LineLaws
pub mod Times
pub mod Made
pub mod Words
unfoldable pub use Words.*
unfoldable pub use Begun.*
unfoldable pub use Between.*
pub use Comparing.*
pub use Counts.*
pub use Fits.*
pub use Jobs.*
unfoldable pub use LineLaws.*
pub use Made.*
pub use Noting.*
pub use Passed.*
pub use Prompting.*
pub use Scripts.*
unfoldable pub use Times.*
unfoldable pub use Whys.*
pub use Made.{ended}
pub use Rattle.script_jobs.specs.declared.session.NotedScript.{NotedScript}
