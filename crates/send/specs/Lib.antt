-- Definitions of crate send: the send call.
pub mod Send
