-- The worked steps, computed.
pub mod Worked
