-- The laws of rankings.
pub mod Table
pub mod Ranking
