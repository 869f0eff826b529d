-- The laws of the rows of a list in the making.
pub mod Finished
pub mod Inserted
pub mod Inserting
pub mod Parts
pub mod RowBytes
