-- Laws of the stages, one file a stage.
pub mod Ladder
pub mod EndWeights
pub mod Ordering
pub mod Firsts
pub mod Naming
pub mod Marking
pub mod Spokes
pub mod LaidRows
pub mod Names
pub mod LaidOut
