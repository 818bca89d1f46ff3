pub mod ReadLemmas
pub mod FieldReplies
pub mod LineLemmas
