-- Laws of walks over the table, one file a topic.
pub mod Regions
pub mod Halves
pub mod Entries
pub mod Rows
pub mod Going
pub mod Taking
pub mod GivingBack
pub mod Tours
