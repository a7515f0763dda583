pub mod Sets
pub mod Stages
