pub mod AllPlaces
pub mod DealtPlaces
pub mod DealtReads
pub mod PartOrder
