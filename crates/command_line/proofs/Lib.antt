pub mod Faultless
pub mod FoundValues
pub mod NumberLemmas
pub mod Subcommands
pub mod TakenNames
pub mod TakenWords
