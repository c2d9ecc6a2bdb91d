pub mod There
pub mod Ready
pub mod Noted
pub mod Said
pub mod Growing
pub mod NeverOpened
pub mod Closed
pub mod StepPlaces
mod Words
