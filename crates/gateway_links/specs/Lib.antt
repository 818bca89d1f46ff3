pub mod PutParcels
pub mod ReadItems
pub mod Promise
pub mod WrittenParcels
pub mod Turns
pub mod Slots
