pub mod Queues
pub mod Stepping
