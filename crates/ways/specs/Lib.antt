pub mod Kind
pub mod Entry
