-- Laws of the numbers of weights.
pub mod Sums
pub mod Logarithm
pub mod Different
pub mod Inside
pub mod Ids
