-- Definitions of crate link_state: a link as it is set up, and whose turn it is.
pub mod SetUp
pub mod Turn
