pub mod Distinct
pub mod RowsRead
pub mod Finders
pub mod Lived
pub mod Logs
pub mod OwnWrites
