pub mod FieldLemmas
pub mod FindingLemmas
