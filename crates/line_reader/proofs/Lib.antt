-- Laws of the lines from a place on; the folders beside them hold the proofs of the methods. Assumes nothing.
pub mod Left
