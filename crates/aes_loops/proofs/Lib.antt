-- Laws of a round in loops, of blocks in a buffer, and of both directions: four columns are a round, and fourteen rounds the cipher.
pub mod Turns
pub mod Stores
pub mod Rotations
pub mod Blocks
pub mod Chains
pub mod Forth
pub mod Backward
