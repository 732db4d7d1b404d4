-- The definitions that the contracts cite.
pub mod Found
pub mod Least
