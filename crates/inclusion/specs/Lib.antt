-- How many rows of a list pass a test.
pub mod Counted
