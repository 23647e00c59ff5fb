-- Definitions of crate keep_alive_out: our Ping and our Pong.
pub mod KeepAlive
