-- Laws of letters.
pub mod Letters
