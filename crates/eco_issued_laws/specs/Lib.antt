pub mod Printing
pub mod Changes
pub mod Issued
pub mod ReadingBack
pub mod Withdrawals
pub mod NewNets
pub mod Bounds
