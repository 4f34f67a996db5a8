-- Minimizers.
pub mod Minimizer
pub mod Least
