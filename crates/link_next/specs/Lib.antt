-- Definitions of crate link_next: the other side's Ping and Pong, and the link after a packet or a refusal.
pub mod KeepAlive
pub mod Next
