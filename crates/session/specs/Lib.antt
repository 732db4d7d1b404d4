-- The definitions that the contracts cite, and the statements of the theorems. Assumes nothing.
pub mod Output
pub mod Printing
pub mod Started
pub mod Theorems
