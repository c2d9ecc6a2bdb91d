pub mod ReachLaws
pub mod SpreadLaws
pub mod RowLaws
pub mod FirstCancelLaws
pub mod ColumnLaws
pub mod AddLaws
pub mod LeastLaws
pub mod LatestLaws
pub mod CauseLaws
pub mod ListLaws
pub mod RunLaws
pub mod ListedLaws
pub mod OrderLaws
mod Words
