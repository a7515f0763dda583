pub mod Documents
pub mod Entries
pub mod Finding
pub mod Leaving
pub mod Slots
pub mod Trees
