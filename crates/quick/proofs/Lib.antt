-- Laws of QUICK.
pub mod Asked
