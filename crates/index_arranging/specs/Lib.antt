-- Keys in order.
pub mod Arranging
