pub mod DigitLemmas
pub mod EndLemmas
pub mod FoldLemmas
pub mod FrontLemmas
pub mod Measures
pub mod PartLemmas
pub mod PlaceLemmas
pub mod SeamLemmas
mod TokenLemmas
