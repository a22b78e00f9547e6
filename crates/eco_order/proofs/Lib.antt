pub mod Counting
pub mod Firsts
pub mod Gating
pub mod Found
pub mod Looking
pub mod Putting
pub mod Unbroken
pub mod Whole
