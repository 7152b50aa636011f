pub mod Through
pub mod Turned
pub mod Seen
pub mod Marks
pub mod Exact
pub mod Called
pub mod Wrapped
pub mod Cases
