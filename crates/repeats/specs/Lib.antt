-- What CHECK answers. `Order` is inner: how it finds a repeat.
pub mod Check
pub mod Order
