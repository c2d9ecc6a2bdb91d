pub mod Joining
pub mod Steps
pub mod Performed
pub mod Taken
pub mod Started
pub mod Previewed
pub mod LaterClosing
pub mod EndPasses
pub mod BareJoins
pub mod Closes
mod Done
pub mod ToldCalls
pub mod Others
pub mod Unopened
pub mod ClosingCancels
pub mod EndChains
pub mod Walks
pub mod Settling
pub mod EndSteps
pub mod Preparing
pub mod Reporting
pub mod Kept
pub mod LogRuns
pub mod TicketCounts
pub mod Placing
pub mod Gathering
pub mod Shown
mod Words
