-- Open rows, and what walks tell of them.
pub mod Open
pub mod Leading
