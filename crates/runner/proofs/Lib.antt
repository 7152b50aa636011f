pub mod Scripts
pub mod Answered
pub mod Playing
pub mod Writing
pub mod Judging
pub mod Signed
