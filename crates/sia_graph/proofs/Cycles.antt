pub mod LeastEdges
pub mod MetEdges
pub mod PrintedCycle
pub mod Rounds
pub mod Walks
