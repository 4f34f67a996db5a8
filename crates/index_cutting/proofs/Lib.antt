-- Laws of cutting strings into stretches, one file a topic.
pub mod Opened
pub mod Carried
pub mod Counting
pub mod Filling
pub mod Cutting
pub mod Keys
