-- Laws of walks.
pub mod Words
pub mod Keys
pub mod Walks
pub mod Rows
pub mod RowWalks
