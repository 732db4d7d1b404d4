pub mod Message
pub mod Refusal
