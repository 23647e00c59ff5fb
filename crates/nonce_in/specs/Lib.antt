-- Definitions of crate nonce_in: the fields of a Nonce.
pub mod Fields
