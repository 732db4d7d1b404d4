-- The bound that spares the count of the slots.
pub mod Entries
