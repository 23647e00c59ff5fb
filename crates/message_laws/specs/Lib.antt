-- Definitions of crate message_laws: the theorems on messages.
pub mod Forms
pub mod Invokes
pub mod RoundTrip
