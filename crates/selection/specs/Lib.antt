-- Rows that an edge is walked from.
pub mod Chosen
