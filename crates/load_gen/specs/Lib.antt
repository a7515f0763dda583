pub mod Documents
pub mod Generator
pub mod Jobs
pub mod Queries
pub mod Stored
pub mod Summary
