-- How a list is made, turn by turn.
pub mod Work
