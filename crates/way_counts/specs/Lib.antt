-- How many regions an edge leads to: the kinds of intervals, and the patterns of kinds.
pub mod Kinds
pub mod Patterns
