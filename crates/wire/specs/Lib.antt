pub mod Bytes
pub mod Choice
