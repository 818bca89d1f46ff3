pub mod SeatLemmas
pub mod DirectoryLemmas
pub mod OrderLemmas
