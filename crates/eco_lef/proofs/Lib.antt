pub mod Telling
pub mod Naming
pub mod Loops
pub mod Passing
pub mod Saying
pub mod Limits
pub mod Distinct
pub mod WordNames
mod Examples
