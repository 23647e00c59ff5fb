-- Definitions of crate invoke_headers: an invoke's headers.
pub mod Headers
