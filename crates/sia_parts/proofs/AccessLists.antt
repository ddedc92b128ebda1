pub mod Closing
pub mod Dealt
pub mod Joined
pub mod LastLists
pub mod Runs
