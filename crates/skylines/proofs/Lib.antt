-- The laws of skylines.
pub mod Laws
