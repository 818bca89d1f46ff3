pub mod Methods
pub mod Notices
pub mod Scales
pub mod Sessions
pub mod Views
