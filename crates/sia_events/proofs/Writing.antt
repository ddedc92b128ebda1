pub mod Decimals
pub mod Flattened
pub mod ListedPairs
pub mod RangeLists
pub mod Ranges
pub mod WellFormed
pub mod Writing
