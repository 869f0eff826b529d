-- The laws of making a list, turn by turn.
pub mod Laws
