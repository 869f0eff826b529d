-- The laws of regions, for the crates above: pure mathematics over specs/, in the order in which they rest on each other.
-- numbers, tests, lists
pub mod Tests
pub mod Order
pub mod Comparison
pub mod Lists
pub mod Chains
pub mod Members
pub mod Ordered
pub mod Count
-- one clock, a row's ranks
pub mod Clocks
pub mod Ranks
pub mod Sides
-- waiting
pub mod Stay
pub mod Leave
pub mod Arrive
pub mod Waiting
pub mod Scale
pub mod Time
-- points
pub mod Guards
pub mod Unique
pub mod Exists
pub mod Points
-- edges
pub mod Positions
pub mod Classes
pub mod Update
pub mod Edges
pub mod Rows
pub mod Leads
-- lists of rows
pub mod Rankings
pub mod Successors
pub mod Next
pub mod Checks
pub mod Insert
-- tables
pub mod Finer
pub mod Start
pub mod Closure
pub mod Sound
pub mod Complete
pub mod Kept
-- the main theorems
pub mod Index
