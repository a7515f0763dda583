pub mod Asking
pub mod Calls
pub mod Merging
pub mod Opening
pub mod Parts
pub mod Sets
