pub mod Edges
pub mod Backlogs
