-- The laws of following, as the code goes.
-- the rows of an edge: written one after the other, taken intervals by intervals
pub mod Put
pub mod Taking
-- the follower's answers
pub mod FollowRows
-- the follower
pub mod FollowWays
