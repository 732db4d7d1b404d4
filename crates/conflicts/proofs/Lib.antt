-- Laws of the search.
pub mod Blockers
pub mod Searches
