-- What the calls need.
pub mod Room
