-- Definitions of crate message_out: a message to send, and the send call.
pub mod Outgoing
pub mod MessageStep
pub mod Parts
