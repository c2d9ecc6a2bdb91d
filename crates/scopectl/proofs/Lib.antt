mod Jobs
pub mod Acted
mod Quoted
mod Words
