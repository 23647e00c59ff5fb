-- Laws that the proofs of crate md5_hash cite.
pub mod Turns
