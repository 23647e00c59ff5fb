-- Definitions of crate packet: what both directions share, and the body of an answer.
pub mod Sum
pub mod Allowed
pub mod Body
