-- Definitions of crate ask_c: the answers of fresh and ask as structs of numbers.
pub mod AskFields
