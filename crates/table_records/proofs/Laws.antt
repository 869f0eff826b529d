-- The laws of reading records, as the code goes.
-- bytes and reading
pub mod Parts
pub mod Scan
pub mod Loops
pub mod Skips
-- tables
pub mod Header
pub mod Locations
pub mod Edges
pub mod Decode
