-- The laws of next rows that a list has not yet.
-- what is found, the next rows of a row, the walk up to the first that is new
pub mod New
pub mod NextRows
pub mod Walking
