pub mod InOrder
pub mod Uncut
