-- The table of cases, and the words in which a row is written.
pub mod Outcome
pub mod Cases
