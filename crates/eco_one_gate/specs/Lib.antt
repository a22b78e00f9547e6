pub mod PlainBases
pub mod OneGates
pub mod OneLaws
pub mod OneSteps
pub mod OneAnswers
