mod Landed
pub mod Placed
mod Stamped
mod Words
