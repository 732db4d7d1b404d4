-- The laws that the proofs, and the proofs of crates that use this one, cite. Assumes nothing.
pub mod Laws
