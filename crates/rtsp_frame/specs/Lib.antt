pub mod Lines
pub mod Fronts
pub mod FrontProps
pub mod StreamFronts
pub mod FramerState
pub mod CutItems
