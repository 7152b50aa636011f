pub mod Tally
pub mod Statements
pub mod Ledger
pub mod Wrong
