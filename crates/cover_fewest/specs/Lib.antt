-- What "fewest runs" means of a collection.
pub mod Fewest
