pub mod EntryLemmas
mod ItemLemmas
mod NameLemmas
mod OnceLemmas
mod OpenLemmas
mod OwnLemmas
mod PlayLemmas
mod PurposeLemmas
mod ReadLemmas
mod SoundLemmas
mod WordLemmas
