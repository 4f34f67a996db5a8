-- What the contracts of `repeats_sieving` cite. `Sieved` is what a caller of both sieves needs.
pub mod Kept
pub mod Slots
