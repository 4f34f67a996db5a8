-- Laws of COVER, one file a topic.
pub mod PlacedHalves
pub mod Covers
pub mod Promised
pub mod Laws
