-- The laws of counting and visiting an edge's next rows in a list.
pub mod Counted
pub mod RankedInside
