-- Definitions of crate result_out: the writers of a result.
pub mod WriteResult
