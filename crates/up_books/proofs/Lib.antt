pub mod EntryLemmas
pub mod IdLemmas
pub mod KeyLemmas
pub mod NumberLemmas
