pub mod OwnBookLemmas
pub mod AlikeLemmas
pub mod BookLemmas
pub mod LoneLemmas
pub mod RecordRunLemmas
pub mod UpRecordLemmas
