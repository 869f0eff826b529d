-- The laws of the search for the first open row, as the code goes.
pub mod Laws
