-- Laws of crate message_c: the message reader for C.
pub mod TimeoutTold
pub mod Timeouts
