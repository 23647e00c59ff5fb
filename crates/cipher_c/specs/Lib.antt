-- Definitions of crate cipher_c: answers as structs for C.
pub mod CipherFields
