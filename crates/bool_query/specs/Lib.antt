pub mod Faults
pub mod Levels
pub mod Parsers
pub mod Progress
pub mod WordLists
