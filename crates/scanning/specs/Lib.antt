-- What scanning a step at a place of a text finds, and what a quick look at it does.
pub mod Quick
pub mod Scan
pub mod Reader
