-- The definitions that the contracts cite, and the statement of the theorem. Assumes nothing.
pub mod Division
pub mod Theorems
