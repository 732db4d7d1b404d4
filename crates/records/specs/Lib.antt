pub mod Pushed
pub mod Record
