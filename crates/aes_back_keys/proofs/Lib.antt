-- Laws that the proofs of crate aes_back_keys cite.
pub mod Laws
pub mod Doubling
