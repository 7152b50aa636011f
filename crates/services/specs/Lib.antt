pub mod Names
pub mod Takes
pub mod Calls
