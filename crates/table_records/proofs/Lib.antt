-- The laws of reading records, as the code goes.
pub mod Laws
