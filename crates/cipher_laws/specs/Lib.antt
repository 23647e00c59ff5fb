-- Definitions of crate cipher_laws: the words of its theorems.
pub mod Figures
pub mod Sizes
pub mod Pieces
