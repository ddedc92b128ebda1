pub mod OneList
pub mod WorkedAccepted
pub mod WorkedEdges
pub mod WorkedReads
pub mod WorkedRefusals
pub mod WorkedReplay
pub mod WorkedStarts
pub mod WorkedTexts
