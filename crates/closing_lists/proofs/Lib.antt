-- Laws of the closing lists; the folders beside them hold the proofs of the functions. Assumes nothing.
pub mod Fitting
pub mod Lists
