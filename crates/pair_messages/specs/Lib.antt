-- What the theorems on messages between two links speak of.
pub mod Meaning
pub mod Hear
pub mod Conversation
