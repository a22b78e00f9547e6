pub mod Folding
pub mod Serving
pub mod Searching
pub mod Outputs
pub mod Reaching
pub mod ListLaws
