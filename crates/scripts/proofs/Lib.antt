pub mod First
pub mod ReadLaws
pub mod Theorems
