pub mod Tests
pub mod Done
pub mod Tasks
pub mod Objects
pub mod Queues
pub mod Ways
