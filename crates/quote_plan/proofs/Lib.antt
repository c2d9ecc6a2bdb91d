pub mod Allowing
pub mod Standing
pub mod Best
pub mod Causes
pub mod Cuts
pub mod Dues
pub mod GoodForms
pub mod Names
pub mod OfferEnds
pub mod Passing
pub mod Prices
pub mod Progress
mod Words
