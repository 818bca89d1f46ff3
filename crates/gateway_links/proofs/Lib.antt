pub mod GaveLemmas
pub mod Puts
pub mod Begins
pub mod MoveLemmas
pub mod TurnLemmas
