-- Small definitions on lists, over any element type where that is possible. Laws about them stand in `proofs/`.
pub mod Choose
pub mod First
pub mod Every
pub mod Fill
pub mod Count
pub mod Pairs
pub mod Pick
pub mod Regions
pub mod Limits
