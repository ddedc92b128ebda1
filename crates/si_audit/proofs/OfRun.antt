pub mod OfSource
