pub mod Tables
pub mod Masters
pub mod Expressions
pub mod Parts
pub mod FunctionsFile
