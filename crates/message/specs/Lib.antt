-- Definitions of crate message: one message.
pub mod PartOf
pub mod ReadMessage
