-- What PLAIN answers, and what that says.
pub mod Plain
pub mod Says
pub mod Scan
