pub mod Progress
pub mod Turns
pub mod TurnLaws
pub mod SessionLaws
