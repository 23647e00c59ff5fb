-- Definitions of crate flush_c: a flush call's answer, for C.
pub mod FlushFields
