-- The laws of next rows that a list has not yet.
pub mod Laws
