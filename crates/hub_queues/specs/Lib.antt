pub mod Closes
pub mod Parcels
pub mod Places
pub mod Room
pub mod Servers
