pub mod RecordedHistory
