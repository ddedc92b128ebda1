pub mod CommandLines
pub mod WorkedLines
