-- The law that the proofs above cite.
pub mod EventLaws
