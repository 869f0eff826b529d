-- The laws of the verdict.
-- what is printed
pub mod Verdict
-- the line that is printed
pub mod Line
