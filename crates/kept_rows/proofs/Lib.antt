-- The laws of the rows of a list in the making.
pub mod Laws
