-- Words and their codes: what the contracts of `words` and of every room above cite.
pub mod Word
pub mod Turned
