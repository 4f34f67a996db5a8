-- Runs of weights, and what RUNS answers.
pub mod Runs
pub mod Joins
pub mod Calls
