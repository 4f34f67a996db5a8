-- Laws of verdicts, of judged collections, of k-mers and of strings.
pub mod Verdicts
pub mod Judged
pub mod Kmers
pub mod Strings
pub mod Ready
pub mod Strung
