pub mod Views
pub mod Listing
pub mod First
pub mod Due
pub mod InOrder
pub mod Pairs
mod Words
