-- Laws of the sieve and of the library's `contains`.
pub mod Sieves
pub mod Members
