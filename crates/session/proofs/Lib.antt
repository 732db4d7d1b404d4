pub mod Answers
pub mod Examples
pub mod Fitting
pub mod Outcomes
pub mod Parts
pub mod Theorems
