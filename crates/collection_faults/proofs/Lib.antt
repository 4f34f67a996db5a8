-- Laws of faults.
pub mod Finding
