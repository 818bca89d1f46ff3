pub mod BitLemmas
pub mod PairLemmas
pub mod ReleaseLemmas
