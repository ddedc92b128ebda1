pub mod Due
pub mod OwnRows
pub mod PositionLaws
pub mod Table
pub mod Tallies
