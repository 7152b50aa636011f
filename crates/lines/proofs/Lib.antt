pub mod Within
pub mod Tails
pub mod Vectors
pub mod Forever
pub mod Long
pub mod Ended
pub mod Held
