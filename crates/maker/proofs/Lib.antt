-- The proofs of the program that makes lists.
pub mod Laws
