pub mod Oldest
pub mod Newest
