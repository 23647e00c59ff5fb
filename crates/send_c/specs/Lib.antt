-- Definitions of crate send_c: what to send, and the answer, as structs of numbers and flags.
pub mod ToSend
pub mod SentFields
