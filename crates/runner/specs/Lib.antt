pub mod Kept
pub mod Outcome
