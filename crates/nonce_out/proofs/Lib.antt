-- Laws that the proofs of crate nonce_out cite.
pub mod BodyLaws
pub mod SentLaws
