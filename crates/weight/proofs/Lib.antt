-- Laws of run lists.
pub mod Followed
pub mod RunLists
pub mod GivenBack
pub mod Only
