-- The laws of the four calls, for the crates above, in the order in which they rest on each other.
-- values
pub mod RecordReads
-- row records
pub mod Rows
-- run lists
pub mod Steps
pub mod Moves
pub mod Runs
-- what is refused
pub mod Refusals
-- region lists
pub mod Open
pub mod RegionLists
-- following
pub mod Follow
-- making lists
pub mod Making
-- long files
pub mod Prefix
-- small answers
pub mod SmallAnswers
-- the file that is written
pub mod MadeFiles
-- writing to buffers, text
pub mod Writing
pub mod Text
-- the calls together
pub mod Claims
-- the main theorems, and the examples
pub mod Index
pub mod Examples
pub mod Samples
pub mod NotEqual
pub mod MakeSamples
