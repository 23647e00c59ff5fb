-- Definitions of crate packet_padding: the padded profile.
pub mod Padding
