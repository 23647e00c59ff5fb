-- Definitions of crate handshake_in: the other side's Handshake.
pub mod Handshake
pub mod Pids
