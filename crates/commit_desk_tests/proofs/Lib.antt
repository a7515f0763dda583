pub mod Scans
pub mod Settings
pub mod Tunings
