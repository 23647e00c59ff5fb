-- Laws that the proofs of crate packet_out cite, and those of packets for the crates above.
pub mod PacketLaws
pub mod SealLaws
