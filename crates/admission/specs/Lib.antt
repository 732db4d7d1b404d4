-- What the code's answers mean, and the rows that each function decides.
pub mod Answers
