pub mod Adding
pub mod AllSights
pub mod BadWrites
pub mod FewNumbers
pub mod Listing
pub mod OneNumber
pub mod Options
pub mod RowTxns
