-- The laws of choosing rows.
pub mod Choosing
pub mod Grouping
