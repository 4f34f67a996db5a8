-- The laws: runs are R - m + paths, so the fewest runs are R - m + E + O/2.
pub mod RunsPaths
pub mod Fewest
