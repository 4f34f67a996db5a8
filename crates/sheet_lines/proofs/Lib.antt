-- How the steps of READ meet the parts of a sheet: a line's weights, its letters, a whole line, all lines, line 1.
pub mod Tails
pub mod Letters
pub mod OneLine
pub mod Counts
pub mod Heads
