pub mod Due
pub mod HeaderNames
pub mod OpenRequest
pub mod OwnForm
pub mod ServerStream
