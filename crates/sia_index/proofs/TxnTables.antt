pub mod Collected
pub mod KnownTxns
pub mod PlacesOf
