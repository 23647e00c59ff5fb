-- Laws that several proofs cite.
pub mod LineLaws
pub mod TurnLaws
pub mod WroteLaws
