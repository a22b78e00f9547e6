pub mod Loops
mod Knowing
pub mod Placing
mod PassedOver
mod PinClauses
mod Rooms
mod Parts
mod Lying
mod Limited
mod LimitedStatements
mod LimitedParts
mod SectionsOnce
mod Quiet
mod LimitLaws
mod LimitPlaces
pub mod Designs
mod WholeText
mod SpecialNets
pub mod WalkOrder
mod Examples
pub mod NearJoints
pub mod Walking
