pub mod Report
pub mod Endings
