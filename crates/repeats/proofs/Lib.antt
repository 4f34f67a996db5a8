-- Laws of CHECK: from the sorted k-mers to the first repeat, and from there to what the answer says.
pub mod Neighbours
pub mod Arranged
pub mod Repeats
pub mod Checked
