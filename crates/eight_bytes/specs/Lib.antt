-- The definitions that the contract cites. Assumes nothing.
pub mod Eight
