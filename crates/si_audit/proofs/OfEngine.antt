pub mod Giving
pub mod OfHistory
