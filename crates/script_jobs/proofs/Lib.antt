pub mod Growing
mod Counted
mod PassedTasks
mod Runs
mod RepliesFit
mod Compared
pub mod LineLaws
mod Walked
mod Timed
mod Standing
mod Made
mod Words
