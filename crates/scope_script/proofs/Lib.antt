pub mod Answered
pub mod Refused
pub mod Runs
pub mod Scripts
pub mod Growing
pub mod Feeds
pub mod Taken
pub mod Kept
pub mod Progress
pub mod AnsweredAlike
pub mod Retiring
mod Lemmas
