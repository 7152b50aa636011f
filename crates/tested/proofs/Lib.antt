pub mod Numbers
pub mod Records
pub mod Listed
pub mod Parts
pub mod Same
pub mod Checked
