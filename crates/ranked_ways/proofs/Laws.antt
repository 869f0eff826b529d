-- The laws of the rankings that an edge's moves allow.
-- which they are, what is remembered of them
pub mod Allowed
pub mod Memo
-- where a walk over the intervals comes to them, and a visit of all of them
pub mod Chosen
pub mod Visit
