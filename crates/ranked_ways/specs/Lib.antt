-- Which rankings of the same intervals the moves allow, and what is remembered of them.
pub mod Allowed
pub mod Memo
