-- What the proofs of the functions use, and the theorems that `specs/Theorems.antt` states. Assumes nothing.
mod Laws
pub mod Theorems
