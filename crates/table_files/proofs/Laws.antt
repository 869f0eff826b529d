-- The laws of reading files and of admission, for the crates above, in the order in which they rest on each other.
-- bytes and reading
pub mod Bytes
pub mod Reading
pub mod Records
-- tables
pub mod Tables
pub mod Admission
pub mod EdgeBytes
pub mod TableBytes
