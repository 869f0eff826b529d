-- The laws of the rankings that an edge's moves allow.
pub mod Laws
