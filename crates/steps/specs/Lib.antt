-- The definitions that the contracts cite, and the statements of the theorems. Assumes nothing.
pub mod Step
pub mod StepText
pub mod Theorems
