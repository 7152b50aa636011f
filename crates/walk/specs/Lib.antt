pub mod Script
pub mod Rows
pub mod Turn
