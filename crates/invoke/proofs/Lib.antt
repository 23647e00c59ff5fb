-- Laws of crate invoke: what a timeout means.
pub mod TimeoutLaws
