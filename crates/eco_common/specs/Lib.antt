pub mod NameBytes
pub mod KnownNames
pub mod Causes
pub mod Options
pub mod Joints
pub mod Sizes
