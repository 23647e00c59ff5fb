pub mod Crc
pub mod Interleaved
