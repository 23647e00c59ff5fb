-- What the theorems on a ciphered exchange speak of.
pub mod Drain
pub mod Comes
pub mod Ends
pub mod Exchange
