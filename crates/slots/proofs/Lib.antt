-- Laws of the slots in use, and of the bound that spares their count.
pub mod Counts
pub mod Reserved
