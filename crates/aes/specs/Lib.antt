-- Definitions of crate aes: the standard's, in its order, the CBC mode, and words for tables.
pub mod Field
pub mod Aes
pub mod Back
pub mod Cbc
pub mod Words
