-- Laws of signed places.
pub mod Marking
pub mod Permutation
