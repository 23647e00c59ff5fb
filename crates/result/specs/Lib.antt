-- Definitions of crate result: the readers of a result.
pub mod ReadResult
