-- The laws of the rows of a list.
pub mod Laws
