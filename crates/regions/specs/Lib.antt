-- What the code's values stand for, and one clock's move.
pub mod Values
pub mod Order
pub mod Move
pub mod Placing
pub mod Image
