-- Laws of crate handshake_out: those that its proofs cite, and that a Handshake's NetPIDs read back.
pub mod BodyLaws
pub mod PidsAlone
pub mod PidsBack
