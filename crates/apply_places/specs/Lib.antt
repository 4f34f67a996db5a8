-- When signed places are refused; and, for the inner functions, what work holds meanwhile.
pub mod Places
pub mod Marks
pub mod Judged
