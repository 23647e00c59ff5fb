-- The laws that the proofs of the search cite.
pub mod FourLaws
