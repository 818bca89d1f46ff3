pub mod LoneGateway
pub mod UpRecords
