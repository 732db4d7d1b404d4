-- Ranks, the search by halves, moves of words, and what stays when keys come and go.
pub mod Halves
pub mod Keys
pub mod Ranks
pub mod Shifts
