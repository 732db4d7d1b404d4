-- The proofs of the theorems, a set for each function.
pub mod OfTexts
pub mod OfStepLines
pub mod OfTerms
pub mod OfProgram
