-- What a row that was read stands for.
pub mod Row
