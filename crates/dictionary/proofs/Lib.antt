-- The demands hold.
pub mod Compared
pub mod Found
pub mod Agreed
pub mod OnceEach
pub mod Determined
pub mod Dictionary
pub mod Said
pub mod Journey
pub mod Starred
pub mod Demands
