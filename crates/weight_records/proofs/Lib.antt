-- Laws of WEIGHT over one list of records.
pub mod Passes
pub mod Agree
