pub mod Held
pub mod Laws
pub mod Generic
pub mod Inside
pub mod Outside
