pub mod Parsing
pub mod Grammar
pub mod Reading
pub mod Known
pub mod Collected
pub mod Limits
pub mod Names
pub mod Sizes
