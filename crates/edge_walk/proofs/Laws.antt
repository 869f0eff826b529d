-- The laws of the walk.
-- the numbers of a row, the choices for one of them, where a walk stands and its steps, the next region that it meets
pub mod Ready
pub mod Numbers
pub mod Choice
pub mod Stand
pub mod Intervals
pub mod Meet
-- the first above a floor, the rows of an edge's way, the walk along it
pub mod First
pub mod Way
pub mod Along
pub mod Visit
pub mod Allowing
