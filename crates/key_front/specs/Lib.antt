-- Definitions of crate key_front: what stands before the key in the init message.
pub mod Front
