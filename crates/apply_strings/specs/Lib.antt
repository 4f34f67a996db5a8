-- Strings turned and reordered, and what stays the same; Parts and Placeable are for the inner functions.
pub mod Turned
pub mod Reordered
pub mod Weighs
pub mod Stands
pub mod Parts
pub mod Placeable
