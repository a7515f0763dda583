pub mod Sizes
pub mod Cleared
pub mod Resting
pub mod Written
