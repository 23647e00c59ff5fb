-- Definitions of crate aes_arms: what the cipher's tables of words hold.
pub mod Twice
