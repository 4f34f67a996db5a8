-- Laws of APPLY.
pub mod Applying
