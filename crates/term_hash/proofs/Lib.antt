pub mod HashLemmas
pub mod Remainders
