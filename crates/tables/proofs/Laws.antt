-- The laws of the admission, as the code goes.
-- tables
pub mod Bounds
pub mod Described
pub mod Opening
pub mod Refusals
pub mod Starts
pub mod Tables
