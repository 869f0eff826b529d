-- What a reader must believe: tables, runs, regions and closed lists, and the next rows as lists that compute.
pub mod Comparison
pub mod Clocks
pub mod Row
pub mod Point
pub mod Wait
pub mod Edge
pub mod Automaton
pub mod Run
pub mod Rows
pub mod Successors
pub mod Next
pub mod Closed
pub mod Checks
pub mod Meeting
pub mod Kept
-- beside that, no part of any promise: how many ranks and rankings there are, which the checks go by
pub mod Rankings
