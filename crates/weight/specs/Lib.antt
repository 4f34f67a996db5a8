-- Run lists as a caller lends them, and what WEIGHT answers.
pub mod RunList
pub mod Weight
