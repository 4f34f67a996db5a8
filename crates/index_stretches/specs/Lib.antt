-- Stretches of k-mers with one minimizer, and the index that is made of them.
pub mod Stretches
pub mod Index
pub mod Lent
