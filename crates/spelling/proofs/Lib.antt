pub mod Spelled
pub mod Fields
pub mod Lines
pub mod Same
pub mod Cases
