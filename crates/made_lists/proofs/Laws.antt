-- The laws of what is said of a list that was made.
pub mod Length
