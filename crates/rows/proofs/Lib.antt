-- The laws of row records, as the code goes.
pub mod Laws
