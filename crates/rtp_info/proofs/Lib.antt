pub mod Lefts
pub mod PartLemmas
