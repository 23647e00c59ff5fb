-- The proof, and the laws that it cites.
pub mod FullText
pub mod SameEvent
pub mod Resume
pub mod Bounds
pub mod EventKinds
pub mod Ends
pub mod ProgramText
