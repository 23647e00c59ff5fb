-- Laws that the proofs of crate message_out cite.
pub mod BodyLaws
pub mod PlaceLaws
pub mod MessageLaws
