-- What the walk over an edge's next rows seeks, where it stands, and how far it has come.
pub mod Walk
pub mod Choice
pub mod Stand
pub mod Intervals
pub mod Way
pub mod Visit
