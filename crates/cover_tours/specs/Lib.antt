-- What the contracts of `cover_tours` cite: strings and spokes in a table, and the walks over them. All of it is inner: COVER's promise cites none of it.
pub mod Layout
pub mod Halves
pub mod Rows
pub mod States
