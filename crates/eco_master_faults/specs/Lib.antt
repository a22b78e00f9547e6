pub mod Tables
pub mod Making
pub mod Differing
pub mod Odd
pub mod Checks
