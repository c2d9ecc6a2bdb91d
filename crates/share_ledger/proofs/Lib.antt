pub mod Seats
pub mod Keeps
pub mod Allowed
pub mod Desks
pub mod Sums
pub mod Telling
pub mod Lists
pub mod Asks
pub mod Histories
pub mod GrantWalks
pub mod Waits
pub mod Told
pub mod Ties
pub mod Ends
mod Words
