-- Definitions of crate nonce_out: our Nonce.
pub mod Nonce
