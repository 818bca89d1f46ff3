pub mod Streams
pub mod Groups
pub mod Infos
pub mod Parameters
pub mod Parts
pub mod Specs
pub mod Views
pub mod InfoText
