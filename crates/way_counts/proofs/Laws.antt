-- The laws of counts.
-- sums, the kinds of intervals, sums over patterns of kinds
pub mod Sums
pub mod Kinds
pub mod Patterns
-- how many rows of the same intervals the moves allow, and how many rows are on a way
pub mod Ways
-- the code's loops, and sums that do not wrap
pub mod Loops
