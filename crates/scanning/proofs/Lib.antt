-- Laws of lines at a place of a text; the folders beside them hold the proofs of the functions. Assumes nothing.
pub mod Completing
pub mod Ends
pub mod Parts
pub mod Steps
