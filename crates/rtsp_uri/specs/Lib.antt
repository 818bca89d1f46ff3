pub mod BaseTexts
pub mod Bases
pub mod Descriptions
pub mod Grammar
pub mod Swaps
pub mod Uris
pub mod Words
