-- Definitions of crate aes_loops: a column's rows, a round's columns, a block's rounds, and the blocks of a buffer.
pub mod Rows
pub mod Rounds
pub mod Chain
