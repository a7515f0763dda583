pub mod LoadExample
pub mod Loads
pub mod LonePass
pub mod PlainTexts
pub mod Replies
pub mod Workers
pub mod WorkersExample
