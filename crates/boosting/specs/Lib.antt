-- The model of the desk, in reading order: definitions, theorems, and the theorems at single runs.
pub mod Object
pub mod Undo
pub mod Locks
pub mod Store
pub mod Room
pub mod Rows
pub mod Step
pub mod Run
pub mod Recovery
pub mod Replay
pub mod Listing
pub mod Sound
pub mod Theorems
pub mod Acceptance
