-- Laws of what a step does to the store, of recovery, and of a script that is opened.
pub mod Opened
pub mod Performed
pub mod Recovering
pub mod Rows
