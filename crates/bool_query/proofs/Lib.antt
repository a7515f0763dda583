pub mod Cuts
pub mod FaultLemmas
pub mod Lexing
pub mod Progress
pub mod Trees
pub mod WordListLemmas
