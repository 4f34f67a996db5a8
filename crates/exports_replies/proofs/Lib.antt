-- Laws of telling.
pub mod Telling
