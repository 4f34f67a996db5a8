-- What ACCESS answers.
pub mod Access
pub mod Located
