pub mod Coding
pub mod Keeping
pub mod TrailWalks
pub mod PlaceSteps
pub mod LogPlaces
pub mod EventRoom
pub mod TrailSteps
pub mod Trailed
pub mod Latest
pub mod Projected
mod Words
