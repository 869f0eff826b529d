-- The laws of walks from few rows, as the code goes.
pub mod Laws
