-- What QUICK answers, and what an asked word weighs; and, for inner functions, a question by codes.
pub mod Quick
pub mod Weighed
pub mod Asking
pub mod Judged
