-- The laws, lowest first.
pub mod Capacity
pub mod Flight
pub mod Invariant
