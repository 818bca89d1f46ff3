pub mod RefuserLemmas
