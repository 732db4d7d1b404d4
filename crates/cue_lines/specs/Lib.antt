pub mod CueLine
pub mod Theorems
