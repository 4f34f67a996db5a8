-- What READ's two passes come to: refusals, judged lines and their weights, tables filled line by line, outcome.
pub mod Refusals
pub mod Outcomes
pub mod Weights
pub mod Rows
pub mod Filled
