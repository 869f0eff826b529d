-- The laws of the run check, as the code goes.
-- the run check, as the code goes
pub mod OneStep
pub mod OnePass
pub mod RunCode
