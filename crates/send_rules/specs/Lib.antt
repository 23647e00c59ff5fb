-- Definitions of crate send_rules: what every send shares.
pub mod Sent
pub mod Control
