-- The laws of following, as the code goes.
pub mod Laws
