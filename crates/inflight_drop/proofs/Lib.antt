-- The laws that the proofs of this crate cite.
pub mod EndLaws
pub mod DropLaws
