pub mod Words
pub mod PlayedLines
pub mod Accepted
pub mod Bases
pub mod Running
pub mod Beginning
pub mod Again
pub mod Raising
pub mod RaisedEvents
pub mod RaisedScopes
pub mod RaisedCancels
pub mod RaisedTasks
pub mod RaisedChecks
pub mod RaisedLegal
pub mod Renumbered
pub mod Commented
mod Lemmas
