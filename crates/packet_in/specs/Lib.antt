-- Definitions of crate packet_in: framing.
pub mod Frame
