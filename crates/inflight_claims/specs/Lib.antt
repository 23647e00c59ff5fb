-- The statements.
pub mod ListClaim
pub mod Rows
pub mod Delivery
pub mod Before
pub mod TwoCalls
pub mod OldAsks
pub mod Slots
