pub mod Lists
pub mod Maps
pub mod First
pub mod InWords
pub mod Finding
pub mod Seconds
pub mod Standing
pub mod Known
pub mod TopJoints
pub mod Parts
pub mod Order
pub mod Told
pub mod Listed
mod Walked
