pub mod ClientReplies
pub mod ClientRequests
pub mod Refusals
pub mod Replies
pub mod Requests
pub mod Views
