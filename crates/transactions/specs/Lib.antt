-- The definitions that the contracts cite.
pub mod Number
pub mod Steps
