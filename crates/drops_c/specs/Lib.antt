-- Definitions of crate drops_c: a gone peer by a flag and a number, and the answer as a struct of numbers.
pub mod DropFields
