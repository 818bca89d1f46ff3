pub mod LimitLemmas
pub mod PlaceLemmas
pub mod QuietLemmas
pub mod RenumberLemmas
pub mod RoomLemmas
pub mod TeardownLemmas
pub mod TidyLemmas
pub mod ControlLemmas
