-- Laws that the proofs of crate flush cite, and those of a flush for the crates above.
pub mod FlushLaws
