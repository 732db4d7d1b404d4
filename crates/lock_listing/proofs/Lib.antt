-- Laws of the lines and of writing them; the theorems.
pub mod Listings
pub mod Theorems
