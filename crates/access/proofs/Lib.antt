-- Laws of ACCESS.
pub mod Located
pub mod Accessed
