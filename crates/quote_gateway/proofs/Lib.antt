pub mod OfferLabels
pub mod Going
pub mod Following
pub mod Asking
pub mod Ending
pub mod Turned
pub mod Reading
pub mod Closing
pub mod Requested
pub mod Telling
pub mod Timed
mod Words
