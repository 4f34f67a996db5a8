-- The laws behind a sieve. `Kept` is for callers.
pub mod Kept
pub mod TwoBits
pub mod Telling
pub mod Sifting
