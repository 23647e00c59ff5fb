-- Definitions of crate receive_c: the answer of a receive call as a struct of numbers.
pub mod ArrivalFields
