-- Laws that the proofs of crate key_front cite.
pub mod Laid
