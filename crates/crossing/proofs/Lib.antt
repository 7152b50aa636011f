pub mod Tests
pub mod Rows
pub mod Exactly
pub mod Steps
