-- Definitions of crate invoke_in: the invoke reader.
pub mod ReadInvoke
