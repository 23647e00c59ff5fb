-- Definitions of crate link: receive.
pub mod Look
pub mod Receive
