-- Laws of crate aes: sums, words, blocks of four words, and tables, for those who compute blocks.
pub mod Xor
pub mod Words
pub mod Quads
pub mod Computed
pub mod Vectors
