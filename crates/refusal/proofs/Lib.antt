-- Lemmas of crate refusal.
pub mod Passing
