pub mod FetchLemmas
pub mod FrontLemmas
pub mod PlaceLemmas
