-- What `tally` says of a sheet, as bytes.
pub mod Text
pub mod Written
