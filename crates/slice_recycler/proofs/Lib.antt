pub mod Recycles
pub mod Steps
pub mod ZeroWords
