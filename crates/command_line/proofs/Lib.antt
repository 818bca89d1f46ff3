pub mod CountLemmas
pub mod CheckLemmas
pub mod ClapLemmas
pub mod ArgumentLemmas
