-- Definitions of crate opening: the other side's Nonce.
pub mod Clock
pub mod Nonce
