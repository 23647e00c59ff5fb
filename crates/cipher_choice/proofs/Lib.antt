-- Theorems on ciphered links.
pub mod Unasked
pub mod OnlyNonces
pub mod Unmet
pub mod SameKeys
pub mod Opposite
pub mod ClearOnly
pub mod Sized
