-- Definitions of crate handshake_out: our Handshake.
pub mod Handshake
