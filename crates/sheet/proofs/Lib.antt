-- Laws of the sheet: what accepted bytes are, what READ takes, and both round trips.
pub mod Accepted
pub mod Written
pub mod Taken
pub mod Calls
