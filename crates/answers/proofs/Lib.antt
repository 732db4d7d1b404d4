-- Laws, theorems and examples; the folders beside them hold the proofs of the functions. Assumes nothing.
pub mod Examples
pub mod Texts
pub mod Theorems
