pub mod Kinds
pub mod Words
pub mod ClapCommands
pub mod Arguments
