pub mod Commands
pub mod Stops
pub mod Usage
pub mod ServeAnswers
