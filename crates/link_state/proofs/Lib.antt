-- Laws of crate link_state.
pub mod SetUpLaws
