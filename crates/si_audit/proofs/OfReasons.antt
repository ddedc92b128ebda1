pub mod Counting
pub mod Rounds
