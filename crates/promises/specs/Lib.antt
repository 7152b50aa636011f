pub mod Decision
pub mod Tight
