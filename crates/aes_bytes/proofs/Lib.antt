-- Laws of crate aes_bytes.
pub mod Bytes
