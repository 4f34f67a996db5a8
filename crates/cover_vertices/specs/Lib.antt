-- Inner: what the contracts of the stages cite. No public promise does.
pub mod Ladder
pub mod Firsts
pub mod Promises
