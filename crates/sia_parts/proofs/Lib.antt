pub mod AccessLists
pub mod Auditing
pub mod CutKeys
pub mod EdgeRows
pub mod Gathered
pub mod OfReasons
pub mod ReadLists
pub mod Shared
