pub mod Contents
pub mod Infos
pub mod Plays
pub mod Readable
pub mod Replies
pub mod Sessions
pub mod Settings
