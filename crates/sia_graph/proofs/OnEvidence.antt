pub mod FirstKeys
pub mod JoinedMisses
pub mod Judging
pub mod PassedKeys
pub mod TakenMembers
