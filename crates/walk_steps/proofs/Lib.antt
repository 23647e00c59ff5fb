-- The theorem over a run, and the laws that several proofs cite.
pub mod MoveLaws
pub mod StepLaws
pub mod Runs
