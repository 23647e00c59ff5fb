-- Theorems on a ciphered exchange.
pub mod Drains
pub mod Prefix
pub mod Pieces
pub mod Carried
pub mod Low
pub mod Says
pub mod Flushes
pub mod Turns
pub mod Greets
pub mod Exchange
pub mod WholeBlocks
pub mod Alike
pub mod Derived
pub mod NotRefused
pub mod DerivedExchange
