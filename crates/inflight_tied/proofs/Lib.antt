-- The laws, lowest first.
pub mod Tied
pub mod Ties
pub mod LaidOut
pub mod Cuts
pub mod Loads
pub mod Answers
pub mod Placed
pub mod Freed
pub mod Struck
pub mod Takes
pub mod Drops
pub mod Asks
pub mod RunOuts
pub mod Simulated
