-- The laws of choosing rows.
pub mod Laws
