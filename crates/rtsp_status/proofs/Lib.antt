pub mod ReasonLemmas
pub mod RowLemmas
