-- Definitions of crate packet_head: a packet's length, number and type, and the words before it.
pub mod Head
pub mod Words
