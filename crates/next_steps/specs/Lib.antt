-- The steps by which next rows come, and walks from the rows of a list in the making.
pub mod Steps
pub mod Walking
