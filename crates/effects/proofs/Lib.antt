pub mod Moving
pub mod Charging
pub mod Falling
