pub mod Channels
pub mod Grants
pub mod Parameters
pub mod Sources
pub mod Splits
pub mod Wants
pub mod GrantText
