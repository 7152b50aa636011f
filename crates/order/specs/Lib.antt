pub mod Lists
pub mod Ledger
pub mod Statements
pub mod Wrong
pub mod Page
