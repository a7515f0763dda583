pub mod Numbers
pub mod Lines
pub mod Replies
pub mod Words
pub mod Readings
pub mod Rendering
pub mod Tunings
pub mod Lengths
