pub mod Playing
pub mod Scripts
pub mod Walking
