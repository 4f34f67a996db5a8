-- Laws of INDEX: its steps, what it comes to, and what success says.
pub mod Built
pub mod Ways
pub mod Success
