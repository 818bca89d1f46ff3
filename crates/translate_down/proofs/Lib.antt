pub mod FieldLemmas
pub mod PlayerLemmas
pub mod VisibleLemmas
pub mod ValueLemmas
pub mod InfoLemmas
pub mod ReadLemmas
pub mod TableLemmas
