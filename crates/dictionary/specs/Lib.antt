-- The demands on the whole library, as types that the proofs inhabit.
pub mod Agreement
pub mod Determined
pub mod Dictionary
pub mod Journey
pub mod Starred
pub mod Demands
