pub mod CoreLemmas
pub mod RuleLemmas
pub mod LineLemmas
pub mod WorkLemmas
pub mod ThreadLemmas
pub mod OrderLemmas
pub mod FinishLemmas
pub mod DealLemmas
