-- Stretches as four tables hold them.
pub mod Cut
