pub mod Draws
pub mod Texts
pub mod AskedFields
pub mod Answers
pub mod ServerSteps
