-- The laws that the proofs of several functions cite.
pub mod NumberLaws
pub mod MatchLaws
pub mod AskLaws
pub mod MaskLaws
pub mod OrderLaws
pub mod CheckLaws
