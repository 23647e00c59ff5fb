-- Definitions of crate take_c: the answers of reply and cancel as structs of numbers.
pub mod TakeFields
