-- The laws of making a list, turn by turn.
pub mod Growing
pub mod Standing
pub mod Adding
pub mod Turning
pub mod Rooms
pub mod Ending
pub mod Beginning
