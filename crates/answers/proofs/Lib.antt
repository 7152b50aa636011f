mod Widths
mod Placing
pub mod Kept
