-- What the code's values stand for, and the order in which it goes.
-- what the code's values stand for, and the order in which it goes
pub mod Step
pub mod Run
