pub mod EdgesListed
