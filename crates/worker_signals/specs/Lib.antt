pub mod DuePlayers
