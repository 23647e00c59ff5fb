-- What a step leaves, and the statement over a run of steps.
pub mod Step
pub mod Runs
