pub mod Places
pub mod Reading
pub mod Begins
pub mod Digits
pub mod Stores
pub mod RoundTrip
pub mod Printed
pub mod Backwards
