-- Laws of runs.
pub mod Later
pub mod Loops
pub mod Joined
