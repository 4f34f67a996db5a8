-- What APPLY makes of a collection and signed places.
pub mod Apply
pub mod Ready
