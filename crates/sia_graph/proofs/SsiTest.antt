pub mod Entering
pub mod FoundFirsts
pub mod LateEdges
pub mod Marks
pub mod Raised
pub mod Stands
