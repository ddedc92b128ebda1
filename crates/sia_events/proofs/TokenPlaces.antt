pub mod BesideReader
pub mod Locations
pub mod Stopping
