pub mod MapSteps
pub mod Replayed
pub mod RightAt
