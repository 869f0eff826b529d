-- What the answers of following stand for.
pub mod Following
pub mod Writing
