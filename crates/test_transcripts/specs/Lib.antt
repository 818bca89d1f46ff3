pub mod Refuser
pub mod RefuserLaws
