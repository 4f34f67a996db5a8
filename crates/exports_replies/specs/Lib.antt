-- How a call's answer is told to a host that has no enums.
pub mod Told
pub mod Replies
pub mod Exported
