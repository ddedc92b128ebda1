pub mod ArgumentsFor
pub mod NumberedOptions
pub mod NumbersGiven
pub mod TakenWords
