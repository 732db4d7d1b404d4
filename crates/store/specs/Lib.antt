-- What the contracts of the store cite beside the model.
pub mod Answering
