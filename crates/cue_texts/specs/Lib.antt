pub mod CueText
pub mod Theorems
