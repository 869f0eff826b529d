-- The proofs of what is said of a list that was made.
pub mod Laws
