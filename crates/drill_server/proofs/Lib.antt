pub mod MoveLemmas
pub mod FewLemmas
