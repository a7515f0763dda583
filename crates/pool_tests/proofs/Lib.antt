pub mod Histories
pub mod Cleared
pub mod Unlisted
