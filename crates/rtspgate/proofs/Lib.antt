pub mod UsageLemmas
pub mod ServeLemmas
