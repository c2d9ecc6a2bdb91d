pub mod NoRoom
pub mod Reported
pub mod Rejecting
pub mod Waiting
pub mod Waits
pub mod Sleeping
pub mod CancelsGrow
pub mod MarksStay
pub mod Marking
pub mod Behind
pub mod Batching
mod Words
