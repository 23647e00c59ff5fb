-- Laws that the proofs of crate packet_head cite.
pub mod HeadLaws
pub mod WordLaws
