pub mod Returns
pub mod PoolState
pub mod Teams
pub mod Batches
pub mod Words
pub use Words.*
pub use Batches.*
pub use PoolState.{Books, Comes, Goes, IsRefused, IsTold, PoolStateValue, Takes, TakesFirst, Tells, Wishes, asked, books, fitting, is_calling, nobody, takers}
pub use Returns.*
pub use Teams.{ArePartedAt, AreReturns, HasRoom, HasThreadMore, HasThreadsMore, IsSameTeam, Joins, TeamValue}
