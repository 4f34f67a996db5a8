-- How WRITE's loops meet the text of a collection, and what they come to.
pub mod Texts
pub mod Line
pub mod Lines
pub mod Outcomes
