-- Laws of crate aes_key_sub.
pub mod Table
