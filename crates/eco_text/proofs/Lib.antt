pub mod Lengths
pub mod Splicing
pub mod Stepping
pub mod WalkSteps
pub mod Streaming
pub mod DigitSteps
pub mod Microns
pub mod Sequence
mod Examples
pub mod Calls
