-- The rows of a list in the making.
pub mod Births
pub mod Inserted
