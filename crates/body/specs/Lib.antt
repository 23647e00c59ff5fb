-- Definitions of crate body: what the writers share.
pub mod Written
