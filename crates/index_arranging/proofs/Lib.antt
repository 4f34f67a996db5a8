-- Laws of keys in order, and of tables in that order.
pub mod Gathered
pub mod Ordered
