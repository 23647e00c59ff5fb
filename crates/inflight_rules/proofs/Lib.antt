-- The laws that the proofs of the rules cite.
pub mod NumberingLaws
pub mod FreeLaws
pub mod SumLaws
