-- What the theorems on ciphered links speak of.
pub mod Nine
pub mod Derives
