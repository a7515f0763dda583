pub mod Bits
pub mod Images
pub mod Readable
pub mod SharedRows
