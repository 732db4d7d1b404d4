-- The definitions that the contracts cite, and the statements of the theorems. Assumes nothing.
pub mod Ascii
pub mod Line
pub mod Lines
pub mod Standing
pub mod Theorems
