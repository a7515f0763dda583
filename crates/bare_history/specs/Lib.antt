pub mod Bare
pub mod Lone
