pub mod Judged
pub mod OneToken
pub mod Pieces
pub mod PlainBytes
pub mod Taken
pub mod Tokens
