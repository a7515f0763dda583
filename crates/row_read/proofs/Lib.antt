pub mod Readings
pub mod Stays
