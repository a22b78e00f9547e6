pub mod Places
pub mod Pins
pub mod Faults
pub mod Held
pub mod Patterns
pub mod Laws
