pub mod Ascii
pub mod Numbers
pub mod Outcomes
pub mod Places
pub mod Tokens
