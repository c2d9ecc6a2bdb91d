pub mod Remade
pub mod PassedReadings
pub mod Checked
mod Words
