-- Definitions of crate keys_c: answers as structs for C.
pub mod KeyFields
