-- Laws of short numbers; the folders beside them hold the proofs of the functions. Assumes nothing.
pub mod Digits
pub mod Folds
pub mod Laws
pub mod Seven
pub mod Two
