-- Definitions of crate cancel_out: the short bodies.
pub mod WriteShort
