pub mod Marked
pub mod Seats
