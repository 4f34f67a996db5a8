-- Laws of stretches and of the index that is made of them.
pub mod Walks
pub mod Even
pub mod Maximal
pub mod Rows
pub mod Once
pub mod Fits
