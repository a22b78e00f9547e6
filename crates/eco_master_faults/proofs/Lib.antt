pub mod Leasts
pub mod OddPins
pub mod Firsts
pub mod MadeKinds
pub mod ByNames
pub mod Models
