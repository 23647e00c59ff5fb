-- Definitions of crate refusal: the numbers of refusals.
pub mod Numbers
