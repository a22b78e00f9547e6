pub mod Overlays
pub mod Moving
pub mod PinMoves
pub mod NetChanges
