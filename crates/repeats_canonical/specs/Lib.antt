-- One code for a word and its reverse complement, and how a table holds the codes of k-mers. All of it is inner.
pub mod Codes
