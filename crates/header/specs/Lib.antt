-- Definitions of crate header: the header values.
pub mod Headers
