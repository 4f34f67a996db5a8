-- What the four tables of a collection mean, and when a call refuses them.
pub mod Collection
pub mod Verdict
pub mod Judge
pub mod Kmers
pub mod Strings
pub mod EndWeights
pub mod Tables
pub mod Ready
pub mod Lent
