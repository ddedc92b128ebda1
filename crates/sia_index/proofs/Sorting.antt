pub mod Dealt
pub mod DealtRows
pub mod Finding
pub mod Placed
pub mod Points
pub mod SideBySide
pub mod SortedLists
pub mod Turned
