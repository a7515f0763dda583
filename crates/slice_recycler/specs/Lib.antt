pub mod Cleared
pub mod Recycles
pub mod Turns
