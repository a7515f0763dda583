pub mod Added
pub mod Heads
pub mod Wholes
