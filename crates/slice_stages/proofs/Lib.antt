pub mod SetLemmas
pub mod Spare
pub mod StageReads
