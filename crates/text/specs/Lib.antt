-- Text as bytes: parts between separators, numbers in decimal, a number that stands at a place, and bytes stored in a table.
pub mod Parts
pub mod Numbers
pub mod Fields
pub mod Stored
