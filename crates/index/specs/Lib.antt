-- What INDEX answers and leaves in the lent tables; and, for inner functions, what is left to do after 2 to 6 and 1.
pub mod Indexing
pub mod Judged
