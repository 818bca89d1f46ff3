pub mod EndingLemmas
pub mod LinkLemmas
pub mod ReceiptLemmas
pub mod FaultlessLemmas
pub mod WholeLemmas
