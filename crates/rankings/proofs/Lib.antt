-- The laws of rankings.
pub mod Laws
