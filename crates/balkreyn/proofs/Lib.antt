mod Acted
mod Collected
mod Looked
pub mod Shown
mod Tried
pub mod Waited
mod Words
