-- The laws of the program that makes lists.
pub mod Paper
