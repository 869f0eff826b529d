-- The rows of a list by their numbers.
pub mod Listed
pub mod Located
pub mod Ranked
pub mod RegionLists
pub mod EdgesInLists
pub mod Props
