-- Laws and the theorem; the folder beside them holds the proof of the function. Assumes nothing.
pub mod Division
pub mod Texts
