pub mod Sessions
pub mod Ends
pub mod Turns
pub mod TurnSteps
pub mod Steps
pub mod Laws
