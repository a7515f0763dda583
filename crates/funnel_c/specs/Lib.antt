pub mod Answers
pub mod Calls
pub mod Codes
pub mod Copies
pub mod Fitting
pub mod Handles
