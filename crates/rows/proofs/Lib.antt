pub mod Search
pub mod Moves
