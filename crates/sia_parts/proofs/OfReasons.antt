pub mod Groups
pub mod InTwoNumbers
pub mod Losses
pub mod Named
pub mod PushedWords
pub mod Sighted
pub mod TakenEvents
