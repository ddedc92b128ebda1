pub mod Chains
pub mod EdgesInTurn
pub mod PivotsInTurn
pub mod PivotWords
pub mod TextsInTurn
