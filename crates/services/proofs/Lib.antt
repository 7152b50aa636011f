pub mod Numbers
pub mod Held
pub mod Keys
pub mod Table
pub mod Taken
pub mod Known
