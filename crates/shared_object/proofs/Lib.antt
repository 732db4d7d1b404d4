-- Calls that change nothing.
pub mod Calls
