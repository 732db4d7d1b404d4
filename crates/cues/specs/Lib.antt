pub mod Cue
pub mod Ranged
pub mod Theorems
