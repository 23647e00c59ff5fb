-- Definitions of crate packet_out: a packet's size and its bytes.
pub mod Size
pub mod Packet
