-- What is true of a transaction that is rolled back.
pub mod Unwinding
