pub mod Tallies
pub mod Worlds
pub mod NewThings
pub mod MemoryWorlds
