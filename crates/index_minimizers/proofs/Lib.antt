-- Laws of minimizers, one file a topic.
pub mod Sizes
pub mod Sliding
pub mod Smallest
