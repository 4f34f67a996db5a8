-- Laws of PLAIN.
pub mod Scans
pub mod Asked
pub mod Found
