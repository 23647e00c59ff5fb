-- Definitions of crate flush: the words that a flush writes, and the link after it.
pub mod Flush
