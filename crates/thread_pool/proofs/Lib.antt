pub mod Batched
pub mod Moved
pub mod Returned
mod Words
