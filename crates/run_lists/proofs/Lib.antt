-- The laws of the run check, as the code goes.
pub mod Laws
