-- What there is to count of the weights of a collection.
pub mod Counts
pub mod Inner
