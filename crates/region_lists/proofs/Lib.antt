-- The laws of the region-list check, as the code goes.
pub mod Laws
