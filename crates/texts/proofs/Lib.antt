-- The proofs of the writers of text.
pub mod Laws
