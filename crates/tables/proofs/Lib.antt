-- The laws of the admission, as the code goes.
pub mod Laws
