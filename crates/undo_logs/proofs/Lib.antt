-- What is true of the takes of a log.
pub mod Takes
