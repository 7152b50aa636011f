pub mod Codes
pub mod Rows
pub mod Longest
pub mod Reached
