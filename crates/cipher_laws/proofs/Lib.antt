-- Laws of crate cipher_laws: the theorems on the cipher.
pub mod Back
pub mod Blocks
pub mod Calls
pub mod Cbc
pub mod Cutting
pub mod Figures
pub mod Linear
pub mod Schedule
pub mod Undo
