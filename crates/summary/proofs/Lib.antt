-- Laws of what `tally` says.
pub mod Fits
pub mod Checked
pub mod Told
pub mod Reported
pub mod Examples
