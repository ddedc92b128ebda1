pub mod Ins
pub mod Lookers
pub mod Passers
pub mod Passings
pub mod Stops
