-- Laws of canonical codes, and of the loops that store them.
pub mod Alike
pub mod Turns
pub mod Halves
pub mod Stringwise
