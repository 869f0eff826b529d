-- What the code's values stand for, and records as parts of a file.
pub mod Refusal
pub mod Scan
pub mod Header
pub mod Edge
pub mod Skips
