-- Orders of strings and their paths, and the least number of paths, in the words of the specification (5). Laws about them stand in `proofs/`.
-- `Renamed`, `Walks` and `Hub` are inner: COVER's promise cites none of them.
pub mod Counting
pub mod Strings
pub mod Paths
pub mod Places
pub mod Groups
pub mod Bounds
pub mod Renamed
pub mod Walks
pub mod Hub
