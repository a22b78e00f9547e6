pub mod Moments
pub mod Told
pub mod Called
pub mod Replays
