pub mod AsBox
pub mod Words
pub mod Acted
pub mod Opened
pub mod Told
pub mod Repeats
pub mod Joins
pub mod Lines
pub mod Doors
mod Lemmas
