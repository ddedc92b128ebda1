pub mod ListedAs
pub mod Outs
pub mod Picked
pub mod PivotRows
pub mod Vulnerable
