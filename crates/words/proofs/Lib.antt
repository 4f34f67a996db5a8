-- Laws of words and codes, one file a topic.
pub mod Spelled
pub mod Codes
pub mod Turning
pub mod Rolling
pub mod Along
