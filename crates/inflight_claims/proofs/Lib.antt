-- The proofs of the statements, and the laws that they cite.
pub mod ListClaim
pub mod Rows
pub mod Membership
pub mod History
pub mod Told
pub mod Numbering
pub mod OldAsks
pub mod Delivery
pub mod Before
pub mod TwoCalls
pub mod Slots
