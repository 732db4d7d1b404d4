-- Laws of words. Assumes nothing.
pub mod WordText
