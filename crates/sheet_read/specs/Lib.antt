-- What the contracts of READ's inner functions cite; READ's promise stands in `sheet` (specs/Read).
pub mod Judged
pub mod Fits
