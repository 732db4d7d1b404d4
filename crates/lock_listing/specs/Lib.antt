-- What a written lock listing is, and what holds of it.
pub mod Listed
pub mod Theorems
