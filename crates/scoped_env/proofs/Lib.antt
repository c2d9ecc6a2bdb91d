pub mod Lookups
pub mod LastBound
pub mod ListSteps
pub mod Unforked
pub mod Sights
pub mod Held
pub mod Steps
pub mod Beginnings
pub mod Indexing
pub mod Batches
mod Words
