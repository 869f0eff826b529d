-- The laws of row records, as the code goes.
-- region lists
pub mod RowRecords
-- following
pub mod Writing
