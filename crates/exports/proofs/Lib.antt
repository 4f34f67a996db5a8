-- What a host may rely on.
pub mod Once
