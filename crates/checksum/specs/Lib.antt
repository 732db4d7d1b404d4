-- What a reader has to believe of the checksum: its definition, and the statements of its theorems. Assumes nothing.
pub mod Checksum
pub mod Theorems
