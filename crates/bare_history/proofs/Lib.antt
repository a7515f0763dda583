pub mod BareLemmas
pub mod LoneCalls
