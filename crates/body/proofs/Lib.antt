-- Laws of crate body: what the writers share.
pub mod WrittenLaws
