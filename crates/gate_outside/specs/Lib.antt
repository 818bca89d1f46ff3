pub mod Causes
pub mod Contents
pub mod Memories
pub mod Links
pub mod MemoryLinks
pub mod Doors
pub mod NewLinks
pub mod MemoryDoors
