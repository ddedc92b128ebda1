pub mod PartLemmas
pub mod StartLemmas
