pub mod Forked
pub mod Paired
pub mod Seated
pub mod Reported
pub mod Ended
pub mod Batched
mod Words
