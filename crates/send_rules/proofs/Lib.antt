-- Laws that the proofs of crate send_rules cite, and those of a send for the crates above.
pub mod ControlLaws
