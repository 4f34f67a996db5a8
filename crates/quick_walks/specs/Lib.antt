-- Walks of k-mers; and, for inner functions, what they ask of an index, and keys of words.
pub mod Walk
pub mod Judged
pub mod Keys
