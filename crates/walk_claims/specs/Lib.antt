-- The statements.
pub mod ProgramText
pub mod Bounds
pub mod EventKinds
