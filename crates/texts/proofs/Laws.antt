-- The laws of the writers of text.
pub mod Digits
pub mod Line
