pub mod Digits
pub mod Pairs
pub mod SameBytes
pub mod TokenSteps
