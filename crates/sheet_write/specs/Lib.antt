-- What the contracts of WRITE's inner functions cite.
pub mod Written
