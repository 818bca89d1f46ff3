pub mod ReadLemmas
pub mod AnswerLemmas
