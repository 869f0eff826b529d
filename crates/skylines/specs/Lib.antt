-- How far an edge leads from a row, and rows that it leads furthest from.
pub mod Reach
pub mod Skyline
pub mod Sides
pub mod Alike
