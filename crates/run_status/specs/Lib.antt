pub mod ExitCodes
pub mod CauseTexts
pub mod FaultLines
