-- The laws of walks from few rows, as the code goes.
pub mod Open
pub mod Turning
pub mod Sides
pub mod Alike
