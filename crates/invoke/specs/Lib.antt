-- Definitions of crate invoke: what an invoke's optional fields mean.
pub mod Fields
