-- What the verdicts stand for.
pub mod Verdict
