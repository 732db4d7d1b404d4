pub mod Script
pub mod ScriptText
pub mod Taken
pub mod Theorems
