-- What the answers stand for, and the order in which the bound rules are tested.
pub mod Values
pub mod Bounds
pub mod Tables
