-- The laws of the search for the first open row, as the code goes.
pub mod Open
pub mod Waiting
pub mod Known
pub mod Tracing
pub mod Leading
