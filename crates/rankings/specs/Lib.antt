-- The rows that have the same location and intervals, by number.
pub mod Table
pub mod Ranking
