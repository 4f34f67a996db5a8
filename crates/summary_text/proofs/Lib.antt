-- Laws of the text of a summary: its lines, how long and how stored, and what writing it comes to.
pub mod Stored
pub mod Outcomes
