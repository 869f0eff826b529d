-- The laws of reading and admission.
pub mod Laws
