-- Faults of one table.
pub mod Faults
