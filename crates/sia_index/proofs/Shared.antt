pub mod Columns
pub mod Fates
pub mod KeyChains
pub mod LogNames
pub mod NumberedNames
pub mod Ordered
