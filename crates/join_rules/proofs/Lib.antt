pub mod TotalsLemmas
pub mod StandingLemmas
mod Words
