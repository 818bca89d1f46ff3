pub mod ApartLemmas
pub mod CleanLemmas
pub mod HexLemmas
pub mod PlaceLemmas
pub mod SourceLemmas
pub mod SplitLemmas
pub mod GrantTextLemmas
