-- A run list as one list of records, and the one pass that answers WEIGHT over it.
pub mod Records
pub mod Pass
