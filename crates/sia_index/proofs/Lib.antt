pub mod Answering
pub mod Shared
pub mod Sorting
pub mod TxnTables
pub mod VersionRows
