-- The laws of the rows of a list.
pub mod Listed
pub mod ListedNumbers
pub mod Located
pub mod Ranked
pub mod Firsts
pub mod RegionLists
