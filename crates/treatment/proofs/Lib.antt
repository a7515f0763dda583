pub mod Stops
pub mod Lookups
pub mod Counting
pub mod Passes
