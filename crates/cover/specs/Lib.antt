-- What COVER promises. `Covering` is inner: what its private functions promise each other.
pub mod Cover
pub mod Covering
