pub mod Rests
pub mod Searches
