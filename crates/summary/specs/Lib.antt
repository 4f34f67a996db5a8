-- What `tally` says of a sheet.
pub mod Summary
pub mod Report
pub mod Inner
