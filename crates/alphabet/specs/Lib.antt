-- The one definition of which byte is which letter.
pub mod Letter
