-- Laws of reordered strings.
pub mod Turning
pub mod TurnedStrings
pub mod Reordered
pub mod Parts
pub mod Placements
pub mod Handles
pub mod Stands
