pub mod Clients
pub mod Gates
