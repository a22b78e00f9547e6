pub mod Writing
pub mod Apart
