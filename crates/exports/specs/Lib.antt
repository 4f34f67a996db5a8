-- What a host sees of each call.
pub mod Calls
