-- The sheet: what its bytes mean, and what READ and WRITE come to. Laws about them stand in `proofs/`.
pub mod Sheet
pub mod Text
pub mod Read
pub mod Write
